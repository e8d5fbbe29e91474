use Rattle.std.proofs.Common.{◌≡◌, ℕ, ◌+◌, ◌<◌, ◌≤◌, ℤ, length, List, ◌++◌, drop, get_or, refl, ap, ◌∙◌, sym, append_assoc, arith}
use Rattle.std.specs.List.{flat_map}
use Rattle.std.proofs.lemmas.List.{append-nil, drop_more, drop_all}
use Rattle.sk_types.specs.declared.handle.ParamId.{ParamId}
use Rattle.sk_krawczyk.specs.declared.certificate.Certificate.{Certificate}
use Rattle.sk_report.specs.Block.{coordinate, coordinates}
use Rattle.sk_report.specs.ReportText.{coordinate_line}
use Rattle.sk_report.proofs.block.push_coordinates.Goals as goal

-- the lines of the columns that are left
abbrev left : {s : ℕ} → List ParamId → Certificate s → List ℤ → ℕ → List ℕ
left params k numbers i = flat_map coordinate_line (coordinates params k i (drop i numbers))

first_left : {s : ℕ} (params : List ParamId) (k : Certificate s) (numbers : List ℤ) (i : ℕ) (d : ℤ) → i < length numbers → d ≡ get_or numbers i d →
    left params k numbers i ≡ coordinate_line (coordinate params k (i, d)) ++ left params k numbers (i + 1)
unfolding coordinates
first_left params k numbers i d l is = rw (drop_more numbers i d l, ← is) refl

one_more : {s : ℕ} (params : List ParamId) (k : Certificate s) (numbers : List ℤ) (i : ℕ) (d : ℤ) (out new all : List ℕ) → i < length numbers → d ≡ get_or numbers i d →
    new ≡ out ++ coordinate_line (coordinate params k (i, d)) → out ++ left params k numbers i ≡ all → new ++ left params k numbers (i + 1) ≡ all
one_more params k numbers i d out new all l is n e =
    ap (λ (t : List ℕ). t ++ left params k numbers (i + 1)) n
    ∙ append_assoc out (coordinate_line (coordinate params k (i, d))) (left params k numbers (i + 1))
    ∙ ap (λ (t : List ℕ). out ++ t) (sym (first_left params k numbers i d l is))
    ∙ e

none_left : {s : ℕ} (params : List ParamId) (k : Certificate s) (numbers : List ℤ) (i : ℕ) (out all : List ℕ) → length numbers ≤ i → out ++ left params k numbers i ≡ all → out ≡ all
unfolding coordinates
none_left params k numbers i out all l e = sym (append-nil out) ∙ rw (drop_all i numbers l) at e

pub loop-column-preserved : goal.loop-column-preserved
loop-column-preserved g c =
    one_more c.args.params.now c.args.certificate.now c.as_slice-centre.result.now c.loop-column.column c.index-centre-column.result c.loop-column.out.items c.push_coordinate.new.out.items _
    (omega arith) c.index-centre-column.is c.in_ok-push_coordinate.ensures c.loop-column.invariant

pub returns : goal.returns
returns g c =
    none_left c.args.params.now c.args.certificate.now c.args.certificate.now.centre c.loop-column.column c.loop-column.out.items _ (omega (arith, ap length c.as_slice-centre.ensures))
    (rw c.as_slice-centre.ensures at c.loop-column.invariant)
