-- What the folder gave for a name.
use Rattle.std.proofs.Common.{◌≡◌, ℕ, List, Option, Some, None, sym, refl}
use Rattle.std.specs.declared.vec.Vec.{Vec}
use Rattle.sk_files.specs.Files.{Files, held, IsTheRead}
use Rattle.sk_link.specs.Replies.{Reply, NoFile, Gave, IsReply}

pub gave_reply : {A : Type 0} (told : Option Files) (name : List ℕ) (rose : Type 0) (v : Vec ℕ A) → IsTheRead told name (Some v) → IsReply told name rose (Gave v.items)
gave_reply None name rose v e = tt
gave_reply (Some files) name rose v e = sym e

-- Where nothing went wrong, some reply would have come.
reply_held : (files : Files) (name : List ℕ) (rose : Type 0) (o : Option (List ℕ)) → held files name ≡ o → (reply : Reply) × IsReply (Some files) name rose reply
reply_held files name rose None e = (NoFile, e)
reply_held files name rose (Some bytes) e = (Gave bytes, e)

pub some_reply : (told : Option Files) (name : List ℕ) (rose : Type 0) → (reply : Reply) × IsReply told name rose reply
some_reply None name rose = (NoFile, tt)
some_reply (Some files) name rose = reply_held files name rose (held files name) refl
