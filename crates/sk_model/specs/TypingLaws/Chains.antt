-- Chains that answer the same over other lines.
use Rattle.std.proofs.Common.{◌≡◌, ℕ, List, Bool, true, false, Option, Some, None, Result, Ok, Err, refl}
use Rattle.sk_num.specs.declared.fault.NumFault.{NumFault}
use Rattle.sk_records.specs.Rows.{Row, last_value, last_number}
use Rattle.sk_model.specs.declared.faults.ModelFault.{ModelFault}
use Rattle.sk_model.specs.Chain.{then_of, refused}
use Rattle.sk_model.specs.Fields.{read_at, value_as, read_under}

pub then_same : {T U : Type 0} (m n : Result T ModelFault) (f k : T → Result U ModelFault) (y : U) →
    ((x : T) → m ≡ Ok x → n ≡ Ok x) → ((x : T) → f x ≡ Ok y → k x ≡ Ok y) → then_of m f ≡ Ok y → then_of n k ≡ Ok y
then_same (Ok x) n f k y a b e = rw (a x refl) (b x e)
then_same (Err z) n f k y a b e = cc

pub ok_inj : {T : Type 0} {x y : T} → ◌≡◌ {A = Result T ModelFault} (Ok x) (Ok y) → x ≡ y
ok_inj e = cc

-- the parts of a chain that answers
pub then_parts : {T U P : Type 0} (m : Result T ModelFault) (f : T → Result U ModelFault) (y : U) → then_of m f ≡ Ok y → ((x : T) → m ≡ Ok x → f x ≡ Ok y → P) → P
then_parts (Ok x) f y e go = go x refl e
then_parts (Err z) f y e go = cc

pub refused_passed : {T : Type 0} (t : Bool) (z : ModelFault) (r : Result T ModelFault) (y : T) → refused t z r ≡ Ok y → (t ≡ false) × (r ≡ Ok y)
refused_passed true z r y e = cc
refused_passed false z r y e = (refl, e)

pub at_alike : {T : Type 0} (r : Result T NumFault) (x : T) (n m : Option ℕ) → read_at n r ≡ Ok x → read_at m r ≡ Ok x
at_alike (Ok z) x n m e = e
at_alike (Err z) x n m e = cc

-- a text that reads, reads the same on any line
value_alike : {T : Type 0} (read : List ℕ → Result T NumFault) (absent x : T) (n m : Option ℕ) (o : Option (List ℕ)) → value_as read absent n o ≡ Ok x → value_as read absent m o ≡ Ok x
value_alike read absent x n m None e = e
value_alike read absent x n m (Some text) e = at_alike (read text) x n m e

pub read_alike : {T : Type 0} (read : List ℕ → Result T NumFault) (absent x : T) (key : List ℕ) (rows other : List Row) → last_value key other ≡ last_value key rows → read_under read absent key rows ≡ Ok x → read_under read absent key other ≡ Ok x
read_alike read absent x key rows other same e = rw same (value_alike read absent x (last_number key rows) (last_number key other) (last_value key rows) e)
