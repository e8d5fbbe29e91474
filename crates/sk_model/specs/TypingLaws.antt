-- How a text is typed after each change, and what typing leaves. Crates above cite this file; the files beside it are its proofs.
pub mod Chains
pub mod Alike
pub mod ListSteps
pub mod Unnumbered
pub mod TypedParts
pub mod Lookups
pub mod Digits
pub mod CleanTexts
pub mod ParamTexts
pub mod ListTexts
pub mod ParamSet
pub mod RemapSet
pub mod ManyParams
pub mod ManyLists
pub mod EntityTexts
pub mod Checked
use Rattle.std.specs.Prelude.{◌≡◌, ℕ, nat_eq, List, ◌∷◌, map, Option, false, Ok}
use Rattle.std.specs.Option.{option_or}
use Rattle.std.specs.List.{All, IsDistinct}
use Rattle.sk_num.specs.Scale.{IsScale}
use Rattle.sk_types.specs.declared.group.Group.{Group}
use Rattle.sk_types.specs.declared.entity.ParamValue.{ParamValue}
use Rattle.sk_types.specs.declared.entity.Entity.{Entity}
use Rattle.sk_types.specs.declared.entity.Act.{Act}
use Rattle.sk_types.specs.Lookups.{value_handle, value_of}
use Rattle.sk_records.specs.declared.kinds.Kind.TheVariants as kind
use Rattle.sk_records.specs.Blocks.{Block, Rec, AllOf, records, add_records, made_anew}
use Rattle.sk_records.specs.ChangeLists.{all_changed}
use Rattle.sk_records.specs.Written.{bare, numbered, bytes_of, IsText}
use Rattle.sk_records.specs.Laws.{IsGiven}
use Rattle.sk_model.specs.declared.remap.GroupList.{GroupList}
use Rattle.sk_model.specs.Typed.{Typed, typed, group_handle}
use Rattle.sk_model.specs.Changes.{new_record, with_params, params_set, absent, value_changes, grew, with_lists, lists_set, list_handle, grown, list_changes}
use Rattle.sk_model.specs.EntityRecords.{entity_records}
use Rattle.sk_model.specs.Settable.{IsSettable, IsStored, IsRemapList, IsGroupList, HasSources, IsWritable}
use Rattle.sk_model.specs.Checked.{AreChecked}
use Rattle.sk_model.specs.TypingLaws.TypedParts.{typed_alike, entities_unseen, param_count}
use Rattle.sk_model.specs.TypingLaws.ManyParams.{value_many, in_one_list, all_stored, params_same, params_blocks, params_typed, params_text}
use Rattle.sk_model.specs.TypingLaws.ManyLists.{handles_many, lists_typed, lists_text, none_grew, lists_same, blocks_same, lists_in_one_pass, grown_lists, grown_blocks}
use Rattle.sk_model.specs.TypingLaws.EntityTexts.{all_entities, entities_given, entities_text, made_twice, made_again}
use Rattle.sk_model.specs.TypingLaws.Checked.{typed_checked}

-- Lines that are numbered otherwise are typed the same; typing doesn't look at entity records; where parameters or remap lists
-- were set, the typed model has them.
pub record TypingLaw : Type 0 where
  pub numbers : (s : ℕ) (bs cs : List Block) (l : Typed s) → bare cs ≡ bare bs → typed s bs ≡ Ok l → typed s cs ≡ Ok l
  pub entities : (s : ℕ) (rs : List Rec) (bs : List Block) → AllOf kind.Entity rs → typed s (made_anew kind.Entity rs bs) ≡ typed s bs
  pub params : (s : ℕ) → IsScale s → (qs : List (ParamValue s)) (bs : List Block) (l : Typed s) → All IsSettable qs → typed s bs ≡ Ok l → typed s (params_set qs l.params bs) ≡ Ok (record l { params = with_params qs l.params })
  pub lists : (s : ℕ) (xs : List GroupList) (bs : List Block) (l : Typed s) → All (IsGroupList l.groups) xs → All (λ (x : GroupList). HasSources x.entries) xs → typed s bs ≡ Ok l → typed s (lists_set xs l.groups bs) ≡ Ok (record l { groups = with_lists xs l.groups })
  pub leaves : (s : ℕ) (bs : List Block) (l : Typed s) → typed s bs ≡ Ok l → AreChecked l

pub typing_law : TypingLaw
typing_law = record {
  numbers = typed_alike;
  entities = entities_unseen;
  params = λ s scale. params_typed scale;
  lists = λ s. lists_typed;
  leaves = typed_checked;
}

-- Setting parameters or remap lists in a text, or making its entity records anew, gives a text.
pub record SetTextsLaw : Type 0 where
  pub params : (s : ℕ) → IsScale s → (qs ps : List (ParamValue s)) (bs : List Block) → All IsSettable qs → IsText bs → IsText (params_set qs ps bs)
  pub lists : (s : ℕ) (xs : List GroupList) (gs : List (Group s)) (bs : List Block) → All (λ (x : GroupList). IsRemapList x.group.0 x.entries) xs → All (λ (x : GroupList). HasSources x.entries) xs → IsText bs → IsText (lists_set xs gs bs)
  pub entities : (s : ℕ) → IsScale s → (acts : List (Act s)) (es : List (Entity s)) (bs : List Block) → All (IsWritable acts) es → IsText bs → IsText (made_anew kind.Entity (entity_records acts es) bs)

pub set_texts_law : SetTextsLaw
set_texts_law = record {
  params = λ s scale. params_text scale;
  lists = λ s. lists_text;
  entities = λ s scale acts es bs all is. entities_text scale acts es all bs is;
}

-- Parameters that are set once each have their values, and the others keep theirs; those that stand are changed in their places, and
-- the others are added in one list. Where each stands with its value, nothing changes.
pub record SetParamsLaw : Type 0 where
  pub values : (s id : ℕ) (qs ps : List (ParamValue s)) → IsDistinct nat_eq (map value_handle qs) → value_of id (with_params qs ps) ≡ option_or (value_of id qs) (value_of id ps)
  pub one_list : (s : ℕ) (qs : List (ParamValue s)) (bs : List Block) (l : Typed s) → IsDistinct nat_eq (map value_handle qs) → typed s bs ≡ Ok l → params_set qs l.params bs ≡ add_records kind.Param (map new_record (absent l.params qs)) (all_changed kind.Param (value_changes l.params qs) bs)
  pub stored : (s : ℕ) (qs ps : List (ParamValue s)) → IsDistinct nat_eq (map value_handle qs) → All (IsStored (with_params qs ps)) qs
  pub same : (s : ℕ) (qs ps : List (ParamValue s)) → All (IsStored ps) qs → with_params qs ps ≡ ps
  pub same_text : (s : ℕ) (qs ps : List (ParamValue s)) (bs : List Block) → All (IsStored ps) qs → params_set qs ps bs ≡ bs

pub set_params_law : SetParamsLaw
set_params_law = record {
  values = λ s id. value_many id;
  one_list = λ s qs bs l d e. in_one_list qs l.params bs d (param_count s bs l e);
  stored = λ s. all_stored;
  same = λ s. params_same;
  same_text = λ s. params_blocks;
}

-- Handles stay where remap lists are set; of lists that were set once each none grows again. Where none grows, nothing changes.
pub record SetListsLaw : Type 0 where
  pub handles : (s : ℕ) (xs : List GroupList) (gs : List (Group s)) → map group_handle (with_lists xs gs) ≡ map group_handle gs
  pub one_pass : (s : ℕ) (xs : List GroupList) (gs : List (Group s)) (bs : List Block) → IsDistinct nat_eq (map list_handle xs) → lists_set xs gs bs ≡ all_changed kind.Group (list_changes gs xs) bs
  pub none_grew : (s : ℕ) (xs : List GroupList) (gs : List (Group s)) → All (IsGroupList gs) xs → IsDistinct nat_eq (map list_handle xs) → All (λ (x : GroupList). grew x (with_lists xs gs) ≡ false) xs
  pub grown_lists : (s : ℕ) (xs : List GroupList) (gs : List (Group s)) → IsDistinct nat_eq (map list_handle xs) → with_lists (grown gs xs) gs ≡ with_lists xs gs
  pub grown_text : (s : ℕ) (xs : List GroupList) (gs : List (Group s)) (bs : List Block) → IsDistinct nat_eq (map list_handle xs) → lists_set (grown gs xs) gs bs ≡ lists_set xs gs bs
  pub same : (s : ℕ) (xs : List GroupList) (gs : List (Group s)) → All (λ (x : GroupList). grew x gs ≡ false) xs → with_lists xs gs ≡ gs
  pub same_text : (s : ℕ) (xs : List GroupList) (gs : List (Group s)) (bs : List Block) → All (λ (x : GroupList). grew x gs ≡ false) xs → lists_set xs gs bs ≡ bs

pub set_lists_law : SetListsLaw
set_lists_law = record {
  handles = λ s. handles_many;
  one_pass = λ s. lists_in_one_pass;
  none_grew = λ s. none_grew;
  grown_lists = λ s. grown_lists;
  grown_text = λ s. grown_blocks;
  same = λ s. lists_same;
  same_text = λ s. blocks_same;
}

-- The records of entities may be given to a text. Made anew once more they change nothing, and in the text that is read again they
-- give the same bytes.
pub record SetEntitiesLaw : Type 0 where
  pub entities : (s : ℕ) (acts : List (Act s)) (es : List (Entity s)) → AllOf kind.Entity (entity_records acts es)
  pub given : (s : ℕ) → IsScale s → (acts : List (Act s)) (es : List (Entity s)) → All (IsWritable acts) es → IsGiven kind.Entity (entity_records acts es)
  pub twice : (s : ℕ) (acts : List (Act s)) (e : Entity s) (es : List (Entity s)) (bs : List Block) → made_anew kind.Entity (entity_records acts (e ∷ es)) (made_anew kind.Entity (entity_records acts (e ∷ es)) bs) ≡ made_anew kind.Entity (entity_records acts (e ∷ es)) bs
  pub again : (s : ℕ) (acts : List (Act s)) (e : Entity s) (es : List (Entity s)) (bs : List Block) → bytes_of (made_anew kind.Entity (entity_records acts (e ∷ es)) (numbered 1 (made_anew kind.Entity (entity_records acts (e ∷ es)) bs))) ≡ bytes_of (made_anew kind.Entity (entity_records acts (e ∷ es)) bs)

pub set_entities_law : SetEntitiesLaw
set_entities_law = record {
  entities = λ s. all_entities;
  given = λ s scale. entities_given scale;
  twice = λ s. made_twice;
  again = λ s. made_again;
}
