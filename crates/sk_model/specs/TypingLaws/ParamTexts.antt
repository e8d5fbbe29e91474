-- The records that are added for parameters, as they are written.
use Rattle.std.proofs.Common.{◌≡◌, ℕ, List, [], ◌∷◌, map, Ok, refl, ap, ◌∙◌}
use Rattle.std.specs.Prelude.{ℤ}
use Rattle.std.specs.List.{All}
use Rattle.std.proofs.lemmas.List.Elements.{All-head, All-tail}
use Rattle.sk_num.specs.Numerals.{padded}
use Rattle.sk_num.specs.Spelling.{quantity_of, quantity_text}
use Rattle.sk_types.specs.declared.entity.ParamValue.{ParamValue}
use Rattle.sk_records.specs.declared.kinds.Kind.TheVariants as kind
use Rattle.sk_records.specs.Blocks.{Rec, with_tails}
use Rattle.sk_records.specs.Written.{bytes_of, bare_rec}
use Rattle.sk_records.specs.Given.{IsKey, IsValue, AreRecords, given_records}
use Rattle.sk_records.specs.Laws.{IsGiven, ArePairs, given_law}
use Rattle.sk_model.specs.declared.keys.Key.TheVariants as key
use Rattle.sk_model.specs.Keys.{key_bytes}
use Rattle.sk_model.specs.Changes.{new_record}
use Rattle.sk_model.specs.Settable.{ReadsBack}
use Rattle.sk_model.specs.TypingLaws.Digits.{handle_digits}
use Rattle.sk_model.specs.TypingLaws.CleanTexts.{clean_hex, clean_value, quantity_clean}

pub value_key : IsKey kind.Param (key_bytes key.ParamValue)
unfolding key_bytes
value_key = record { prefix = refl; no_list = refl; no_equals = refl; no_feed = refl }

handle_key : IsKey kind.Param (key_bytes key.ParamHandle)
unfolding key_bytes
handle_key = record { prefix = refl; no_list = refl; no_equals = refl; no_feed = refl }

-- what is written of a quantity, and of a handle, is a value
pub quantity_value : (s : ℕ) (t : List ℕ) (z : ℤ) → quantity_of s t ≡ Ok z → IsValue t
quantity_value s t z e = clean_value t (quantity_clean s t z e)

pub handle_value : (n : ℕ) → IsValue (padded 16 8 n)
handle_value n = clean_value (padded 16 8 n) (clean_hex (padded 16 8 n) (handle_digits n).0)

pairs_given : (s id : ℕ) (v : ℤ) → quantity_of s (quantity_text s v) ≡ Ok v → ArePairs kind.Param ((key_bytes key.ParamHandle, padded 16 8 id) ∷ (key_bytes key.ParamValue, quantity_text s v) ∷ [])
pairs_given s id v e = ((handle_key, handle_value id), ((value_key, quantity_value s (quantity_text s v) v e), tt))

-- the records may be given
pub params_given : {s : ℕ} (ps : List (ParamValue s)) → All ReadsBack ps → IsGiven kind.Param (map new_record ps)
params_given [] all = record { recs = tt; ended = tt; kind = tt }
params_given {s} (p ∷ ps) all =
    given_law.plain kind.Param (key_bytes key.ParamHandle, padded 16 8 p.id.0) ((key_bytes key.ParamValue, quantity_text s p.value) ∷ []) (map new_record ps)
    (pairs_given s p.id.0 p.value (All-head ReadsBack p ps all)) (params_given ps (All-tail ReadsBack p ps all))

pub records_given : {s : ℕ} (ps : List (ParamValue s)) → All ReadsBack ps → AreRecords kind.Param (bytes_of (with_tails (map new_record ps)))
records_given ps all = given_law.many kind.Param (map new_record ps) (params_given ps all)

records_bare : {s : ℕ} (ps : List (ParamValue s)) → map bare_rec (map new_record ps) ≡ map new_record ps
records_bare [] = refl
records_bare (p ∷ ps) = ap (λ (rs : List Rec). new_record p ∷ rs) (records_bare ps)

pub records_are : {s : ℕ} (ps : List (ParamValue s)) → All ReadsBack ps → given_records (bytes_of (with_tails (map new_record ps))) ≡ map new_record ps
records_are ps all = given_law.many_are kind.Param (map new_record ps) (params_given ps all) ∙ records_bare ps
