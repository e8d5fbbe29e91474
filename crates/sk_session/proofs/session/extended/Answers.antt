use Rattle.std.proofs.Common.{refl}
use Rattle.sk_chain.specs.Outlines.{outlined}
use Rattle.sk_session.proofs.Opened.{extends}
use Rattle.sk_session.proofs.session.extended.Goals as goal

pub returns-clause-ok : goal.returns-clause-ok
returns-clause-ok g c =
    extends c.args.parts.now c.args.model.now c.outline.new.model c.in_ok-outline.outline c.requires.read c.law_typed.ensures.checked c.law_typed-2.ensures.checked
    (outlined c.args.parts.now c.args.model.now.lists) refl c.in_ok-outline.ensures.value c.in_ok-outline.ensures.blocks c.in_ok-outline.ensures.lists
