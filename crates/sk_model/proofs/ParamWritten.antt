-- The record that is added for a parameter, written part by part.
use Rattle.std.proofs.Common.{◌≡◌, ℕ, List, [], ◌∷◌, ◌++◌}
use Rattle.std.specs.Prelude.{ℤ, codes}
use Rattle.sk_num.specs.Numerals.{padded}
use Rattle.sk_num.specs.Spelling.{quantity_text}
use Rattle.sk_records.specs.declared.kinds.Kind.TheVariants as kind
use Rattle.sk_records.specs.Blocks.{with_tails}
use Rattle.sk_records.specs.Written.{bytes_of}
use Rattle.sk_model.specs.declared.keys.Key.TheVariants as key
use Rattle.sk_model.specs.Keys.{key_bytes}
use Rattle.sk_model.specs.Changes.{param_record}
use Rattle.sk_model.specs.WrittenLines.{pair_bytes}
use Rattle.sk_model.proofs.PairLines.{behind, record_written}

module _ (s id : ℕ) (v : ℤ) where
  pub param_written : (k m h q z a b c : List ℕ) → k ≡ key_bytes key.ParamHandle → m ≡ key_bytes key.ParamValue → h ≡ padded 16 8 id → q ≡ quantity_text s v →
      a ≡ z ++ pair_bytes ((k, h) ∷ []) → b ≡ a ++ pair_bytes ((m, q) ∷ []) → c ≡ b ++ codes "AddParam\n\n" → c ≡ z ++ bytes_of (with_tails (param_record s id v ∷ []))
  param_written k m h q z a b c ek em eh eq first second third =
      record_written kind.Param ((key_bytes key.ParamHandle, padded 16 8 id) ∷ (key_bytes key.ParamValue, quantity_text s v) ∷ []) z b c
      (rw (← ek, ← em, ← eh, ← eq) (behind ((k, h) ∷ []) ((m, q) ∷ []) z a b first second))
      third
