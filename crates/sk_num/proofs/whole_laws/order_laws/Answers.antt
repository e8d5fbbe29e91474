use Rattle.sk_num.specs.Whole.{*ℤ-le_pos, *ℤ-le_neg, *ℤ-le_cancel, product-above_corners, product-below_corners}
use Rattle.sk_num.proofs.whole_laws.order_laws.Goals as goal

pub returns : goal.returns
returns c = record {
  kept = *ℤ-le_pos;
  turned = *ℤ-le_neg;
  cancelled = *ℤ-le_cancel;
  above_corners = product-above_corners;
  below_corners = product-below_corners;
}
