-- A typed model, part by part.
use Rattle.std.proofs.Common.{◌≡◌, ℕ, List, [], length, Option, Some, None, Result, Ok, refl, sym}
use Rattle.sk_types.specs.Lookups.{value_handle}
use Rattle.sk_records.specs.declared.kinds.Kind.TheVariants as kind
use Rattle.sk_records.specs.Blocks.{Block, Rec, AllOf, records, made_anew}
use Rattle.sk_records.specs.Written.{bare}
use Rattle.sk_records.specs.Laws.{records_law}
use Rattle.sk_model.specs.declared.faults.ModelFault.{ModelFault}
use Rattle.sk_model.specs.Chain.{unless}
use Rattle.sk_model.specs.Groups.{group_of}
use Rattle.sk_model.specs.Params.{param_of}
use Rattle.sk_model.specs.Requests.{request_of}
use Rattle.sk_model.specs.Constraints.{constraint_of}
use Rattle.sk_model.specs.Typed.{Typed, typed, groups_of, params_of, requests_of, constraints_of, group_handle, request_handle, constraint_handle, whole_fault}
use Rattle.sk_model.specs.TypingLaws.Chains.{then_parts, ok_inj}
use Rattle.sk_model.specs.TypingLaws.Alike.{param_alike, request_alike, constraint_alike, group_alike}
use Rattle.sk_model.specs.TypingLaws.ListSteps.{all_related, all_length}
use Rattle.sk_model.specs.TypingLaws.Unnumbered.{SameLines, records_same}

pub record Parts (s : ℕ) (bs : List Block) (l : Typed s) : Type 0 where
  pub groups : groups_of s (records kind.Group bs) ≡ Ok l.groups
  pub params : params_of s (records kind.Param bs) ≡ Ok l.params
  pub requests : requests_of (records kind.Request bs) ≡ Ok l.requests
  pub constraints : constraints_of s (records kind.Constraint bs) ≡ Ok l.constraints
  pub sound : whole_fault s l.groups l.requests l.constraints ≡ None

unless_passed : {T : Type 0} (o : Option ModelFault) (r : Result T ModelFault) (y : T) → unless o r ≡ Ok y → (o ≡ None) × (r ≡ Ok y)
unless_passed None r y e = (refl, e)
unless_passed (Some z) r y e = cc

pub parts_of : (s : ℕ) (bs : List Block) (l : Typed s) → typed s bs ≡ Ok l → Parts s bs l
unfolding typed
parts_of s bs l e =
    then_parts (groups_of s (records kind.Group bs)) _ l e (λ gs egs e1.
    then_parts (params_of s (records kind.Param bs)) _ l e1 (λ ps eps e2.
    then_parts (requests_of (records kind.Request bs)) _ l e2 (λ rs ers e3.
    then_parts (constraints_of s (records kind.Constraint bs)) _ l e3 (λ cs ecs e4.
    (let u = unless_passed (whole_fault s gs rs cs) _ l e4 in
    let is : record { groups = gs; params = ps; requests = rs; constraints = cs } ≡ l = ok_inj u.1 in
    rw (sym is) (record { groups = egs; params = eps; requests = ers; constraints = ecs; sound = u.0 }))))))

pub typed_parts : (s : ℕ) (bs : List Block) (l : Typed s) → Parts s bs l → typed s bs ≡ Ok l
unfolding typed
typed_parts s bs l is = rw (is.groups, is.params, is.requests, is.constraints, is.sound) refl

-- lines that are numbered otherwise are typed the same
pub typed_alike : (s : ℕ) (bs cs : List Block) (l : Typed s) → bare cs ≡ bare bs → typed s bs ≡ Ok l → typed s cs ≡ Ok l
typed_alike s bs cs l same e =
    let is = parts_of s bs l e in
    typed_parts s cs l (record {
      groups = all_related group_handle (group_of s) SameLines (λ seen r q g same h. group_alike r q (λ k. same.values _) s seen g same.bodies h) [] (records kind.Group bs) (records kind.Group cs) l.groups (records_same kind.Group bs cs same) is.groups;
      params = all_related value_handle (param_of s) SameLines (λ seen r q p same h. param_alike r q (λ k. same.values _) s seen p h) [] (records kind.Param bs) (records kind.Param cs) l.params (records_same kind.Param bs cs same) is.params;
      requests = all_related request_handle request_of SameLines (λ seen r q p same h. request_alike r q (λ k. same.values _) seen p h) [] (records kind.Request bs) (records kind.Request cs) l.requests (records_same kind.Request bs cs same) is.requests;
      constraints = all_related constraint_handle (constraint_of s) SameLines (λ seen r q c same h. constraint_alike r q (λ k. same.values _) s seen c h) [] (records kind.Constraint bs) (records kind.Constraint cs) l.constraints (records_same kind.Constraint bs cs same) is.constraints;
      sound = is.sound;
    })

-- typing doesn't look at entity records
pub entities_unseen : (s : ℕ) (rs : List Rec) (bs : List Block) → AllOf kind.Entity rs → typed s (made_anew kind.Entity rs bs) ≡ typed s bs
unfolding typed
entities_unseen s rs bs all =
    rw (records_law.anew_other kind.Entity kind.Group refl rs bs all, records_law.anew_other kind.Entity kind.Param refl rs bs all, records_law.anew_other kind.Entity kind.Request refl rs bs all, records_law.anew_other kind.Entity kind.Constraint refl rs bs all) refl

-- as many as there are records
pub param_count : (s : ℕ) (bs : List Block) (l : Typed s) → typed s bs ≡ Ok l → length (records kind.Param bs) ≡ length l.params
param_count s bs l e = all_length value_handle (param_of s) [] (records kind.Param bs) l.params (parts_of s bs l e).params
