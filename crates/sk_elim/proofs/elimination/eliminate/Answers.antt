use Rattle.std.proofs.Common.{◌≡◌, ap, sym, ◌∙◌, arith, length, lit<, [], ◌+◌, ℕ, subst, List, Result, Ok}
use Rattle.std.specs.List.{range_with_len}
use Rattle.sk_elim.specs.Elimination.{Halt, Elimination, Progress, steps, free_step}
use Rattle.sk_elim.specs.Faults.{progress_of, HaltsAs}
use Rattle.sk_elim.proofs.FinishLemmas.{tops-count, free-halts, eliminated-is}
use Rattle.sk_elim.specs.ReducedLaws.{apart-below, steps-reduced}
use Rattle.sk_elim.proofs.elimination.eliminate.Goals as goal

pub finished-requires : goal.finished-requires
finished-requires g c =
    let s = g.row.S in
    let a = c.args.a.now in
    let start = progress_of s c.in-Ok.start.0 in
    let w = progress_of s c.forced_steps.new.w in
    let u = progress_of s c.free_steps.new.w in
    let same : c.as_slice-2.result.now ≡ c.as_slice.result.now = c.as_slice-2.ensures.value ∙ sym c.as_slice.ensures.value in
    let freed = subst (λ (ts : List ℕ). steps (free_step s ts c.args.params c.args.forced.now) w (range_with_len 0 a.rows) ≡ Ok u) same c.in-Ok-free_steps.ensures.value in
    let none : start.pivots ≡ [] = ap (λ (p : Progress). p.pivots) c.in-Ok.ensures.0 in
    let reduced = steps-reduced s c.as_slice.result.now c.args.params a.cols (a.cols + a.rows) a.rows c.args.forced.now start w u c.requires.params_in none c.in-Ok.ensures.3
    (λ i l. (c.in-Ok.ensures.2 i [] l).size) c.requires.rows_apart c.requires.columns_apart c.in-Ok-forced_steps.ensures.value freed in
    (omega arith, (omega arith, (c.requires.scale, reduced.there)))

pub forced_steps-requires : goal.forced_steps-requires
forced_steps-requires g c =
    let a = c.args.a.now in
    let e = c.in-Ok.ensures.3 in (
      lit< tt,
      (
        c.requires.scale,
        (
          c.in-Ok.ensures.2,
          (
            λ k d l.
                let z = apart-below (λ (p : ℕ × ℕ). p.0) a.rows c.args.forced.now c.requires.rows_apart k d l in
                let y = apart-below (λ (p : ℕ × ℕ). p.1) a.cols c.args.forced.now c.requires.columns_apart k d l in
                (omega (arith, z, e), omega (arith, y)),
            ap length (c.as_slice.ensures.value ∙ c.in-Ok.ensures.1) ∙ tops-count a.rows a.cols a.cells ∙ sym e,
          ),
        ),
      ),
    )

pub free_steps-requires : goal.free_steps-requires
free_steps-requires g c =
    let a = c.args.a.now in
    let e = c.forced_steps.ensures.count ∙ c.in-Ok.ensures.3 in (
      lit< tt,
      (
        c.requires.scale,
        (
          c.forced_steps.ensures.rows,
          (
            omega (arith, c.requires.params_in),
            (
              sym e,
              ap length (c.as_slice-2.ensures.value ∙ c.in-Ok.ensures.1) ∙ tops-count a.rows a.cols a.cells ∙ sym e,
            ),
          ),
        ),
      ),
    )

pub returns-in-Err-free_steps : goal.returns-in-Err-free_steps
returns-in-Err-free_steps g c =
    let s = g.row.S in
    let a = c.args.a.now in
    let w = progress_of s c.forced_steps.new.w in
    let tops = c.as_slice.ensures.value ∙ c.in-Ok.ensures.1 in
    let same : c.as_slice-2.result.now ≡ c.as_slice.result.now = c.as_slice-2.ensures.value ∙ sym c.as_slice.ensures.value in
    free-halts s a.rows a.cols c.args.params c.args.forced.now a.cells (progress_of s c.in-Ok.start.0) c.as_slice.result.now c.in-Ok.ensures.0 tops w c.in-Ok-forced_steps.ensures.value c.in-Err-free_steps.e
    (subst (λ (ts : List ℕ). HaltsAs (steps (free_step s ts c.args.params c.args.forced.now) w (range_with_len 0 a.rows)) c.in-Err-free_steps.e) same c.in-Err-free_steps.ensures.value)

pub returns-in-Err-finished : goal.returns-in-Err-finished
returns-in-Err-finished g c =
    let s = g.row.S in
    let a = c.args.a.now in
    let w = progress_of s c.forced_steps.new.w in
    let tops = c.as_slice.ensures.value ∙ c.in-Ok.ensures.1 in
    let same : c.as_slice-2.result.now ≡ c.as_slice.result.now = c.as_slice-2.ensures.value ∙ sym c.as_slice.ensures.value in
    let u = progress_of s c.free_steps.new.w in
    let freed = subst (λ (ts : List ℕ). steps (free_step s ts c.args.params c.args.forced.now) w (range_with_len 0 a.rows) ≡ Ok u) same c.in-Ok-free_steps.ensures.value in
    subst (λ (r : Result Elimination Halt). HaltsAs r c.in-Err-finished.e) (sym (eliminated-is s a.rows a.cols c.args.params c.args.forced.now a.cells (progress_of s c.in-Ok.start.0) c.as_slice.result.now c.in-Ok.ensures.0 tops w c.in-Ok-forced_steps.ensures.value u freed)) c.in-Err-finished.ensures

pub returns : goal.returns
returns g c =
    let s = g.row.S in
    let a = c.args.a.now in
    let w = progress_of s c.forced_steps.new.w in
    let tops = c.as_slice.ensures.value ∙ c.in-Ok.ensures.1 in
    let same : c.as_slice-2.result.now ≡ c.as_slice.result.now = c.as_slice-2.ensures.value ∙ sym c.as_slice.ensures.value in
    let u = progress_of s c.free_steps.new.w in
    let freed = subst (λ (ts : List ℕ). steps (free_step s ts c.args.params c.args.forced.now) w (range_with_len 0 a.rows) ≡ Ok u) same c.in-Ok-free_steps.ensures.value in
    let (o, is, made) = c.in-Ok-finished.ensures in
    (o, eliminated-is s a.rows a.cols c.args.params c.args.forced.now a.cells (progress_of s c.in-Ok.start.0) c.as_slice.result.now c.in-Ok.ensures.0 tops w c.in-Ok-forced_steps.ensures.value u freed ∙ is, made)
