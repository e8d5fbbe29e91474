-- The laws of the kernel of spans.
use Rattle.std.specs.Prelude.{ℕ}
use Rattle.sk_num.specs.Ends.{Ends, point, span_add, span_sub, span_mul}
use Rattle.sk_num.specs.Enclosed.{Encloses, Triple}
use Rattle.sk_num.specs.EnclosedLemmas.{Encloses-point, Encloses-add, Encloses-sub, Encloses-mul, Encloses-scale}
use Rattle.sk_num.specs.KernelLaws.{KernelLaws}

-- a span encloses the values at both points, and says nothing of slopes
abbrev pub SpanEncloses : ℕ → ℕ → ℕ → Ends → Triple → Type 0
SpanEncloses s m k e t = Encloses s m e t.at_p × Encloses s m e t.at_q

pub span_laws : (s : ℕ) → KernelLaws s Ends point span_add span_sub (span_mul s) (SpanEncloses s)
span_laws s = record {
  one = λ m k g. (Encloses-point s m g, Encloses-point s m g);
  sum = λ m k x y z t u h l e. (Encloses-add s m x y z t.at_p u.at_p h.0 l.0 e, Encloses-add s m x y z t.at_q u.at_q h.1 l.1 e);
  difference = λ m k x y z t u h l e. (Encloses-sub s m x y z t.at_p u.at_p h.0 l.0 e, Encloses-sub s m x y z t.at_q u.at_q h.1 l.1 e);
  product = λ m k n l x y z t u c h g e. (Encloses-mul s m n x y z t.at_p u.at_p h.0 g.0 e, Encloses-mul s m n x y z t.at_q u.at_q h.1 g.1 e);
  scaled = λ j m k x t h. (Encloses-scale s j m x t.at_p h.0, Encloses-scale s j m x t.at_q h.1);
}
