-- The faults of a text and of its records, and want of memory.
use Rattle.std.proofs.Common.{◌≡◌, inl, inr, ap, Result, Err, refl}
use Rattle.sk_records.specs.Answers.{IsFault}
use Rattle.sk_records.specs.declared.faults.ReadFault.{ReadFault}
use Rattle.sk_records.specs.declared.faults.ReadFault.TheVariants as text
use Rattle.sk_model.specs.declared.faults.ModelFault.{ModelFault}
use Rattle.sk_model.specs.declared.faults.ModelFault.TheVariants as model
use Rattle.sk_link.specs.Chain.{with_err}
use Rattle.sk_session.specs.declared.fault.TextFault.TheVariants.{Unread, Untyped, NoMemory}
use Rattle.sk_session.specs.Opening.{of_text, of_model}

text_told : {T : Type 0} (e : ReadFault) (r : Result T ReadFault) → r ≡ Err e → IsFault NoMemory (of_text e) (with_err Unread r)
unfolding of_text
text_told text.NoMemory r h = inl refl
text_told text.TooLarge r h = inr (ap (with_err Unread) h)
text_told text.BadHeader r h = inr (ap (with_err Unread) h)
text_told (text.BadLine n) r h = inr (ap (with_err Unread) h)
text_told (text.OpenMap n) r h = inr (ap (with_err Unread) h)
text_told (text.OpenRecord n) r h = inr (ap (with_err Unread) h)

text_wanted : {T : Type 0} (e : ReadFault) (r : Result T ReadFault) → e ≡ text.NoMemory → IsFault NoMemory (of_text e) (with_err Unread r)
unfolding of_text
text_wanted e r h = rw h (inl refl)

-- a fault of the lines
pub text_fault : {T : Type 0} (e : ReadFault) (r : Result T ReadFault) → IsFault text.NoMemory e r → IsFault NoMemory (of_text e) (with_err Unread r)
text_fault e r (inl h) = text_wanted e r h
text_fault e r (inr h) = text_told e r h

told : {T : Type 0} (e : ModelFault) (r : Result T ModelFault) → r ≡ Err e → IsFault NoMemory (of_model e) (with_err Untyped r)
unfolding of_model
told model.NoMemory r h = inl refl
told (model.NumberAt n) r h = inr (ap (with_err Untyped) h)
told (model.DuplicateHandle n) r h = inr (ap (with_err Untyped) h)
told (model.UnknownKind n k) r h = inr (ap (with_err Untyped) h)
told (model.LeftOut n y) r h = inr (ap (with_err Untyped) h)
told (model.NoSuch n t) r h = inr (ap (with_err Untyped) h)
told (model.Ahead n t) r h = inr (ap (with_err Untyped) h)
told (model.BadValue n) r h = inr (ap (with_err Untyped) h)
told (model.TooMany w) r h = inr (ap (with_err Untyped) h)

wanted : {T : Type 0} (e : ModelFault) (r : Result T ModelFault) → e ≡ model.NoMemory → IsFault NoMemory (of_model e) (with_err Untyped r)
unfolding of_model
wanted e r h = rw h (inl refl)

-- a fault of the records
pub model_fault : {T : Type 0} (e : ModelFault) (r : Result T ModelFault) → IsFault model.NoMemory e r → IsFault NoMemory (of_model e) (with_err Untyped r)
model_fault e r (inl h) = wanted e r h
model_fault e r (inr h) = told e r h
