use Rattle.std.proofs.Common.{◌≡◌, ◌∙◌}
use Rattle.std.proofs.lemmas.Result.{err_from_is_err_and}
use Rattle.sk_session.proofs.Opened.{opened-fault, opened-is, sound-opened, stands}
use Rattle.sk_session.proofs.session.Session.over.Goals as goal

pub returns-in_err-outline-clause-value : goal.returns-in_err-outline-clause-value
returns-in_err-outline-clause-value g c =
    let p = err_from_is_err_and c.from_residual.result c.from_residual.ensures.1 in
    let same : p.0 ≡ c.in_err-outline.field-0.0 = cc (p.2) in
    rw (p.1, same) (opened-fault c.args.parts c.args.model c.in_err-outline.field-0.0 c.in_err-outline.ensures.err)

pub invariant_of-result : goal.invariant_of-result
invariant_of-result g c =
    let x = c.in_ok-outcome.outcome in
    let e = c.in_ok-outcome.ensures in
    stands c.args.parts c.args.model c.extended.new.model c.in_ok-outline.outline c.in_ok-outline.ensures.ok
    x.model x.numbers x.report.groups c.of.result e.blocks e.lists e.numbers e.report (c.of.ensures ∙ e.groups)
    c.requires.scale c.requires.read c.law_typed.ensures.text c.law_typed.ensures.typed c.law_typed-2.ensures.checked e.acts

pub returns-clause-value : goal.returns-clause-value
returns-clause-value g c =
    let x = c.in_ok-outcome.outcome in
    let e = c.in_ok-outcome.ensures in
    opened-is c.args.parts c.args.model c.extended.new.model c.in_ok-outline.outline c.in_ok-outline.ensures.ok
    x.model x.numbers x.report.groups c.of.result e.blocks e.lists e.numbers e.report (c.of.ensures ∙ e.groups)

pub returns-clause-sound : goal.returns-clause-sound
returns-clause-sound g c =
    sound-opened c.args.parts c.args.model c.extended.new.model c.in_ok-outline.outline c.in_ok-outline.ensures.ok c.in_ok-outcome.ensures.sound
