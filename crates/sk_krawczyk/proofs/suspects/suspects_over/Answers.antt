use Rattle.std.proofs.Common.{◌<◌, ℕ, lit<, sym, subst}
use Rattle.std.specs.List.{All}
use Rattle.sk_num.specs.EachLaws.{each_some-length}
use Rattle.sk_krawczyk.proofs.suspects.suspects_over.Goals as goal

pub judged-requires : goal.judged-requires
judged-requires g c =
    let named = subst (λ (n : ℕ). All (λ r. r < n) c.args.listed.now) (sym c.requires.one_each) c.requires.rows_in in
    (lit< tt, (named, each_some-length _ c.args.listed.now c.in-Ok.spans c.in-Ok.ensures))
