-- Puts one after another.
use Rattle.std.proofs.Common.{◌≡◌, ℕ, List, [], ◌++◌, Option, Some, None, refl, ap, sym, ◌∙◌, append_assoc, rules, Err}
use Rattle.std.specs.Io.KnownBytes.{append_known}
use Rattle.sk_files.specs.Taken.{Takes, TakesPrefix}
use Rattle.sk_files.specs.Outcome.{OnFailed}
use Rattle.sk_files.specs.declared.folder.OuterFault.{OuterFault}
use Rattle.sk_files.specs.declared.folder.OuterFault.TheVariants.{Failed, NoMemory}

pub append_known-twice : (known : Option (List ℕ)) (a b : List ℕ) → append_known (append_known known a) b ≡ append_known known (a ++ b)
append_known-twice None a b = refl
append_known-twice (Some xs) a b = ap Some (append_assoc xs a b)

pub Takes-none : (known : Option (List ℕ)) → Takes known known []
Takes-none None = refl
Takes-none (Some xs) = ap Some (search rules)

pub Takes-then : (x y z : Option (List ℕ)) (a b c : List ℕ) → Takes x y a → Takes y z b → c ≡ a ++ b → Takes x z c
Takes-then x y z a b c t u e = u ∙ ap (λ k. append_known k b) t ∙ append_known-twice x a b ∙ ap (λ r. append_known x r) (sym e)

-- a front of b is a front of a ++ b ++ d
pub TakesPrefix-then : (x y z : Option (List ℕ)) (a b d c : List ℕ) → Takes x y a → TakesPrefix y z b → c ≡ a ++ (b ++ d) → TakesPrefix x z c
TakesPrefix-then x y z a b d c t p e = record {
  front = a ++ p.front;
  rest = p.rest ++ d;
  whole = append_assoc a p.front (p.rest ++ d) ∙ ap (λ u. a ++ u) (sym (append_assoc p.front p.rest d) ∙ ap (λ u. u ++ d) p.whole) ∙ sym e;
  taken = Takes-then x y z a p.front (a ++ p.front) t p.taken refl;
}

pub OnFailed-weaker : {P Q : Type 0} (T U : Type 0) (e : OuterFault) → (P → Q) → OnFailed {T = T} (Err e) P → OnFailed {T = U} (Err e) Q
OnFailed-weaker T U Failed f p = f p
OnFailed-weaker T U NoMemory f p = tt
