-- What a call that can meet the limit answers, against what is defined: Ok and PastLimit are those of the definition, want of
-- memory is free.
use Rattle.std.specs.Prelude.{Option, Some, None, ◌≡◌, Result, Ok, Err}
use Rattle.sk_expr.specs.declared.fault.VisitFault.{VisitFault}
use Rattle.sk_expr.specs.declared.fault.VisitFault.TheVariants.{PastLimit, NoMemory}

-- what the call leaves is what is defined
abbrev pub Follows : {A B : Type 0} → Option A → A → Result B VisitFault → Type 0
Follows o a (Ok b) = o ≡ Some a
Follows o a (Err PastLimit) = o ≡ None
Follows o a (Err NoMemory) = Unit {0}

-- what the call gives, seen by f, is what is defined
abbrev pub Gives : {A B : Type 0} → Option B → Result A VisitFault → (A → B) → Type 0
Gives o (Ok a) f = o ≡ Some (f a)
Gives o (Err PastLimit) f = o ≡ None
Gives o (Err NoMemory) f = Unit {0}
