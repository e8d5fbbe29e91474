use Rattle.std.proofs.Common.{◌≡◌, ◌≤◌, ◌<◌, ◌-◌, ◌*◌, ◌^◌, ℕ, pos, List, ap, sym, ◌∙◌, subst, refl, lit<, length, map, true, false}
use Rattle.std.specs.Prelude.{unsigned_abs}
use Rattle.std.specs.List.{All}
use Rattle.std.proofs.lemmas.List.{length-map}
use Rattle.sk_num.specs.Ends.{Ends}
use Rattle.sk_num.specs.declared.mat.Mat.{Mat}
use Rattle.sk_expr.specs.Visits.{system_of}
use Rattle.sk_krawczyk.specs.Box.{square_system}
use Rattle.sk_krawczyk.specs.IntervalTest.{conditions, length_columns, box_test, over_limit, unmet, certificate, suspects_of, suspect_spans}
use Rattle.sk_krawczyk.specs.Answers.{radius_of_log, plain_basis, named_suspect}
use Rattle.sk_krawczyk.proofs.RestLemmas.{stored-size}
use Rattle.sk_krawczyk.proofs.CertificateLemmas.{sizes-are, radii-small, radii-positive, bound-is, spread-is, certificate-is}
use Rattle.sk_krawczyk.proofs.TestLemmas.{not-computed, not-met, not-spanned, is-met}
use Rattle.sk_krawczyk.proofs.boxes.box_test.Goals as goal

pub measure-requires : goal.measure-requires
measure-requires g c =
    let one_each = ap length c.in-Ok.ensures ∙ length-map c.args.logs (λ l. pos (radius_of_log g.row.S l)) ∙ c.requires.one_each in
    let small = subst (All (λ r. unsigned_abs r ≤ 2 ^ (g.row.S - 10))) (sym c.in-Ok.ensures) (radii-small g.row.S c.requires.scale c.args.logs c.requires.logs) in
    (lit< tt, (lit< tt, (lit< tt, (lit< tt, (lit< tt, (c.requires.scale, (c.requires.testable, (c.requires.basis, (one_each, (small, c.requires.step))))))))))

pub returns-in-Err-measure : goal.returns-in-Err-measure
returns-in-Err-measure g c = λ e.
    let s = g.row.S in
    let v = system_of c.args.params c.args.v.now in
    let b = plain_basis c.args.basis in
    let sizes = ap (map unsigned_abs) c.in-Ok.ensures ∙ sizes-are s c.args.logs in
    subst (λ (rs : List ℕ). box_test s v b rs ≡ over_limit) sizes (not-computed s v b (map unsigned_abs c.in-Ok.radii) (c.in-Err-measure.ensures e))

pub returns-then-not-measured : goal.returns-then-not-measured
returns-then-not-measured g c =
    let s = g.row.S in
    let v = system_of c.args.params c.args.v.now in
    let b = plain_basis c.args.basis in
    let radii = c.in-Ok.radii in
    let sizes = ap (map unsigned_abs) c.in-Ok.ensures ∙ sizes-are s c.args.logs in
    let h = c.in-Ok-measure.ensures in
    let n : conditions s (square_system v b) (map unsigned_abs radii) (length_columns v) ≡ false = cc in
    subst (λ (rs : List ℕ). box_test s v b rs ≡ unmet) sizes (not-met s v b (map unsigned_abs radii) h.0 n)

pub returns-in-Err-suspects_over : goal.returns-in-Err-suspects_over
returns-in-Err-suspects_over g c = λ e.
    let s = g.row.S in
    let v = system_of c.args.params c.args.v.now in
    let b = plain_basis c.args.basis in
    let radii = c.in-Ok.radii in
    let sizes = ap (map unsigned_abs) c.in-Ok.ensures ∙ sizes-are s c.args.logs in
    let h = c.in-Ok-measure.ensures in
    let m : conditions s (square_system v b) (map unsigned_abs radii) (length_columns v) ≡ true = cc in
    subst (λ (rs : List ℕ). box_test s v b rs ≡ over_limit) sizes
    (not-spanned s v b (map unsigned_abs radii) h.0 m (ap (λ (es : List Ends). suspect_spans s v es b.suspects) (sym h.1) ∙ c.in-Err-suspects_over.ensures e))

pub certificate-requires : goal.certificate-requires
certificate-requires g c =
    let s = g.row.S in
    let h = c.in-Ok-measure.ensures in
    let slopes = c.in-Ok-measure.measured.slopes in
    let n = length c.args.basis.solved in
    let slopes_size = stored-size _ _ _ slopes.cells h.4 ∙ ap (λ (k : ℕ). k * n) (sym h.2) ∙ ap (λ (k : ℕ). slopes.rows * k) (sym h.3) in
    let positive = subst (All (λ r. 0 < unsigned_abs r)) (sym c.in-Ok.ensures) (radii-positive s c.args.logs c.requires.logs) in
    let small = subst (All (λ r. unsigned_abs r ≤ 2 ^ (s - 10))) (sym c.in-Ok.ensures) (radii-small s c.requires.scale c.args.logs c.requires.logs) in
    (lit< tt, (lit< tt, (lit< tt, (lit< tt, (lit< tt, (c.requires.scale, (slopes_size, (c.requires.basis.inverse, (positive, small)))))))))

pub returns : goal.returns
returns g c =
    let s = g.row.S in
    let v = system_of c.args.params c.args.v.now in
    let b = plain_basis c.args.basis in
    let radii = c.in-Ok.radii in
    let sizes = ap (map unsigned_abs) c.in-Ok.ensures ∙ sizes-are s c.args.logs in
    let h = c.in-Ok-measure.ensures in
    let i = c.requires.basis in
    let slopes = c.in-Ok-measure.measured.slopes in
    let y = c.args.basis.inverse in
    let (spans, there, named) = c.in-Ok-suspects_over.ensures in
    let k = c.in-Ok-certificate.ensures in
    let names = c.args.v.now.rows in
    let m : conditions s (square_system v b) (map unsigned_abs radii) (length_columns v) ≡ true = cc in
    let over = ap (λ (es : List Ends). suspect_spans s v es b.suspects) (sym h.1) ∙ there in
    let cols = i.inverse_cols ∙ sym i.square in (
      certificate s v b (map unsigned_abs radii) (suspects_of b.suspects spans),
      ap (box_test s v b) (sym sizes) ∙ is-met s v b (map unsigned_abs radii) spans h.0 m over,
      certificate-is names v b c.args.logs (map unsigned_abs radii) spans c.in-Ok-certificate.certificate (sym sizes) c.requires.logs k.0 k.1 k.2 k.3 k.4
          (ap (map named_suspect) k.5 ∙ named) (ap (λ (m : Mat s). m.rows) k.6 ∙ i.inverse_rows) (ap (λ (m : Mat s). m.cols) k.6 ∙ i.inverse_cols) (ap (λ (m : Mat s). m.cells) k.6)
          (k.7 ∙ bound-is s v b radii slopes.cells h.4 slopes.rows slopes.cols h.2 h.3)
          (k.8 ∙ spread-is s v b radii slopes.cells h.4 slopes.rows slopes.cols y.rows y.cols y.cells h.2 h.3 i.inverse_rows cols refl),
    )
