use Rattle.std.proofs.Common.{◌≡◌, ℤ, pos, ◌*ℤ◌, ◌≤ℤ◌, arith, rules, to_z, of_z}
use Rattle.std.specs.Int.{int_min, int_max, w128}
use Rattle.std.proofs.lemmas.Int.{ints, clamps}
use Rattle.sk_num.proofs.EndsLemmas.{ends-rising, ends-falling}
use Rattle.sk_num.proofs.span.Span.multiple_ends.Goals as goal
use Rattle.sk_num.proofs.span.Span.multiple_ends.Goals.{then-is_falling, else-is_falling}

pub returns-clause-least : goal.returns-clause-least
returns-clause-least g c =
    let o : c.args.self.now.lo ≤ℤ c.args.self.now.hi = search (rules, c.self.invariant.ordered) in
    elim c.if-is_falling.branch [
      | then-is_falling w ↦
          let l = ends-falling c.args.self.now.lo c.args.self.now.hi c.args.k o (search (arith, w.if-is_falling.true)) in
          let e : c.times.result ≡ c.args.self.now.hi *ℤ c.args.k = search (rules, w.low-is, c.times.ensures.value) in
          omega (arith, ints, clamps, l, e)
      | else-is_falling w ↦
          let l = ends-rising c.args.self.now.lo c.args.self.now.hi c.args.k o (search (arith, w.if-is_falling.false)) in
          let e : c.times.result ≡ c.args.self.now.lo *ℤ c.args.k = search (rules, w.low-is, c.times.ensures.value) in
          omega (arith, ints, clamps, l, e)
    ]

pub returns-clause-greatest : goal.returns-clause-greatest
returns-clause-greatest g c =
    let o : c.args.self.now.lo ≤ℤ c.args.self.now.hi = search (rules, c.self.invariant.ordered) in
    elim c.if-is_falling.branch [
      | then-is_falling w ↦
          let l = ends-falling c.args.self.now.lo c.args.self.now.hi c.args.k o (search (arith, w.if-is_falling.true)) in
          let e : c.times-2.result ≡ c.args.self.now.lo *ℤ c.args.k = search (rules, w.low-is, c.times-2.ensures.value) in
          omega (arith, ints, clamps, l, e)
      | else-is_falling w ↦
          let l = ends-rising c.args.self.now.lo c.args.self.now.hi c.args.k o (search (arith, w.if-is_falling.false)) in
          let e : c.times-2.result ≡ c.args.self.now.hi *ℤ c.args.k = search (rules, w.low-is, c.times-2.ensures.value) in
          omega (arith, ints, clamps, l, e)
    ]
