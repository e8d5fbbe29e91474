use Rattle.std.proofs.Common.{◌≡◌, inr, ℕ, ◌+◌, ◌<◌, List, [], ◌∷◌, ◌++◌, refl, sym, ap, ◌∙◌, subst, get_or, drop, arith}
use Rattle.sk_types.specs.declared.group.RemapEntry.{RemapEntry}
use Rattle.sk_types.specs.Copies.{CopyKey, same_copy}
use Rattle.sk_copy.specs.Extended.{extended, greatest, has_copy, with_copy}
use Rattle.std.specs.List.{list_any}
use Rattle.sk_copy.proofs.Listing.{skip, full, more, not_seen, is_seen, seen_kept, seen_grown, one_greater}
use Rattle.sk_copy.proofs.lists.Listing.with_copies.Goals as goal

pub loop-key-preserved-then-not-branch : goal.loop-key-preserved-then-not-branch
loop-key-preserved-then-not-branch c =
    let keys = c.args.keys.now in
    let i = c.loop-key.key-index in
    let out = c.loop-key.entries.items in
    let there = c.loop-key-test.true in
    let old = is_seen keys i out there c.loop-key.seen.keys c.insert.new.self.keys c.loop-key.invariant.seen c.in_ok-insert.field-0 c.in_ok-insert.ensures.added c.if-not-branch.true in
    record {
      rest = skip keys i out there (extended keys c.args.self) old c.loop-key.invariant.rest;
      top = c.loop-key.invariant.top;
      seen = seen_kept keys i out there c.loop-key.seen.keys c.insert.new.self.keys c.loop-key.invariant.seen old c.in_ok-insert.ensures.keys;
    }

pub returns-then-top-clause-full : goal.returns-then-top-clause-full
returns-then-top-clause-full c =
    let keys = c.args.keys.now in
    let i = c.loop-key.key-index in
    let out = c.loop-key.entries.items in
    let there = c.loop-key-test.true in
    let new = not_seen keys i out there c.loop-key.seen.keys c.insert.new.self.keys c.loop-key.invariant.seen c.in_ok-insert.field-0 c.in_ok-insert.ensures.added c.if-not-branch.false in
    inr (refl, full keys i out there (extended keys c.args.self) new (sym c.loop-key.invariant.top ∙ c.if-top.true) c.loop-key.invariant.rest)

pub loop-key-preserved : goal.loop-key-preserved
loop-key-preserved c =
    let keys = c.args.keys.now in
    let i = c.loop-key.key-index in
    let out = c.loop-key.entries.items in
    let there = c.loop-key-test.true in
    let new = not_seen keys i out there c.loop-key.seen.keys c.insert.new.self.keys c.loop-key.invariant.seen c.in_ok-insert.field-0 c.in_ok-insert.ensures.added c.if-not-branch.false in
    let k : CopyKey = get_or keys i (0, 0) in
    let x : RemapEntry = record { number = c.loop-key.top + 1; source = record { 0 = k.0 }; copy = k.1 } in
    let is = c.loop-key.invariant.top in
    let few = c.loop-key.auto.top-fits in
    let under = c.if-top.false in
    let room : greatest out < 65535 = omega (arith, is, few, under) in
    let number : 1 + greatest out ≡ c.loop-key.top + 1 = omega (arith, is) in
    let longer : c.push.new.self.items ≡ out ++ x ∷ [] = c.in_ok-push.ensures.items in
    let same : with_copy k out ≡ c.push.new.self.items = ap (λ (n : ℕ). out ++ record { number = n; source = record { 0 = k.0 }; copy = k.1 } ∷ []) number ∙ sym longer in
    record {
      rest = subst (λ (l : List RemapEntry). extended (drop (i + 1) keys) l ≡ extended keys c.args.self) same (more keys i out there (extended keys c.args.self) new room c.loop-key.invariant.rest);
      top = subst (λ (l : List RemapEntry). c.loop-key.top + 1 ≡ greatest l) (sym longer) (one_greater out x c.loop-key.top is refl);
      seen = subst (λ (l : List RemapEntry). (y : CopyKey) → list_any (same_copy y) c.insert.new.self.keys ≡ has_copy y l) (sym longer) (seen_grown keys i out there c.loop-key.seen.keys c.insert.new.self.keys c.loop-key.invariant.seen x refl c.in_ok-insert.ensures.keys);
    }
