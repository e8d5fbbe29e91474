-- Worked rows of changed stretches and histories, by computation.
use Rattle.std.specs.Prelude.{◌≡◌, refl, ℕ, suc, zero, List, [], ◌∷◌}
use Rattle.sk_undo.specs.declared.entry.Entry.{Entry}
use Rattle.sk_undo.specs.Changes.{entry_between, earlier_text, later_text}
use Rattle.sk_undo.specs.Histories.{Past, no_past, kept, placed}

abbrev entry : ℕ → ℕ → List ℕ → List ℕ → Entry
entry front back earlier later = record { dirty = []; front = front; back = back; earlier = earlier; later = later }

-- `ab1c` and `ab22c`
pub middle-changed : entry_between [] (97 ∷ 98 ∷ 49 ∷ 99 ∷ []) (97 ∷ 98 ∷ 50 ∷ 50 ∷ 99 ∷ []) ≡ entry 2 1 (49 ∷ []) (50 ∷ 50 ∷ [])
middle-changed = refl

-- `aa` and `aaa`: the front comes first, and the back doesn't reach into it
pub front-first : entry_between [] (97 ∷ 97 ∷ []) (97 ∷ 97 ∷ 97 ∷ []) ≡ entry 2 0 [] (97 ∷ [])
front-first = refl

pub from-nothing : entry_between [] [] (97 ∷ []) ≡ entry 0 0 [] (97 ∷ [])
from-nothing = refl

pub nothing-changed : entry_between [] (97 ∷ 98 ∷ []) (97 ∷ 98 ∷ []) ≡ entry 2 0 [] []
nothing-changed = refl

pub put-back : earlier_text (entry 2 1 (49 ∷ []) (50 ∷ 50 ∷ [])) (97 ∷ 98 ∷ 50 ∷ 50 ∷ 99 ∷ []) ≡ 97 ∷ 98 ∷ 49 ∷ 99 ∷ []
put-back = refl

pub put-again : later_text (entry 2 1 (49 ∷ []) (50 ∷ 50 ∷ [])) (97 ∷ 98 ∷ 49 ∷ 99 ∷ []) ≡ 97 ∷ 98 ∷ 50 ∷ 50 ∷ 99 ∷ []
put-again = refl

-- the entries n, n + 1, .. so many of them
abbrev numbered : ℕ → ℕ → List Entry
numbered n zero = []
numbered n (suc m) = entry n 0 [] [] ∷ numbered (suc n) m

abbrev kept_all : Past → List Entry → Past
kept_all h [] = h
kept_all h (e ∷ es) = kept_all (kept h e) es

-- of 65 the oldest is forgotten
pub oldest-forgotten : kept_all no_past (numbered 0 65) ≡ record { entries = numbered 1 64; place = 64 }
oldest-forgotten = refl

-- after two steps back a new entry stands in the place of both
pub redo-cleared : kept (placed (kept_all no_past (numbered 0 3)) 1) (entry 7 0 [] []) ≡ record { entries = entry 0 0 [] [] ∷ entry 7 0 [] [] ∷ []; place = 2 }
redo-cleared = refl
