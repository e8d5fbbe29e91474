use Rattle.std.proofs.Common.{List, ap, ◌∙◌, sym, subst, lit≤, ◌<◌, ◌^◌}
use Rattle.std.specs.Prelude.{◌==◌}
use Rattle.std.specs.List.{All}
use Rattle.std.proofs.lemmas.List.Elements.{All-filter}
use Rattle.sk_types.specs.declared.constraint.Constraint.{Constraint}
use Rattle.sk_types.specs.declared.entity.Entity.{Entity}
use Rattle.sk_types.specs.declared.handle.ParamId.{ParamId}
use Rattle.sk_types.specs.Params.{OwnFit, own_params, unknown_params}
use Rattle.sk_system.specs.ShareLaws.{own-entities, own-unknowns}
use Rattle.sk_regen.proofs.ground.unknowns_in.Goals as goal

pub unknown_params-requires : goal.unknown_params-requires
unknown_params-requires g c =
    let es = c.args.ground.now.outline.now.entities in
    let own = c.share-share.ensures.entities ∙ c.requires.places.entities c.args.group.now.id.0 in
    let fit : OwnFit c.share-share.result.entities.now = subst (OwnFit {s = g.row.S}) (sym own)
    (All-filter (λ (e : Entity g.row.S). e.group.0 == c.args.group.now.id.0) (λ e. All (λ (p : ParamId). p.0 < 2 ^ 32) (own_params e)) es c.requires.fit) in
    (lit≤ tt, (lit≤ tt, (lit≤ tt, (fit, c.requires.known))))

pub returns : goal.returns
returns g c =
    let es = c.args.ground.now.outline.now.entities in
    let cs = c.args.ground.now.model.now.lists.constraints in
    let group = c.args.group.now in
    let entities = c.share-share.ensures.entities ∙ c.requires.places.entities group.id.0 in
    let constraints = c.share-share.ensures.constraints ∙ c.requires.places.constraints group.id.0 in
    c.in_ok-unknowns.ensures ∙ ap (λ (l : List (Entity g.row.S)). unknown_params c.share-share.result.constraints.now l group) entities ∙ own-entities group c.share-share.result.constraints.now es
    ∙ ap (λ (l : List (Constraint g.row.S)). unknown_params l es group) constraints ∙ own-unknowns group cs es
