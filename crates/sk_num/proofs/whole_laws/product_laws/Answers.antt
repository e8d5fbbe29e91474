use Rattle.sk_num.specs.Whole.{*ℤ_assoc, *ℤ-+ℤ_left, *ℤ--ℤ_left, neg_ℤ-*ℤ}
use Rattle.sk_num.proofs.whole_laws.product_laws.Goals as goal

pub returns : goal.returns
returns c = record { grouped = *ℤ_assoc; of_sum = *ℤ-+ℤ_left; of_difference = *ℤ--ℤ_left; of_negative = neg_ℤ-*ℤ }
