use Rattle.std.proofs.Common.{◌<◌, ◌+◌, ◌^◌, ◌≤◌, ℕ, List, length, arith, sym, subst}
use Rattle.std.specs.List.{All}
use Rattle.sk_records.proofs.Shifted.{lists_fit}
use Rattle.sk_records.proofs.inserting.insert_at.Goals as goal

pub shift_lists-requires : goal.shift_lists-requires
shift_lists-requires c =
    let Q : List (List ℕ) → Type 0 = λ lists. All (λ (list : List ℕ). All (λ (p : ℕ). p + c.len-count.result < 2 ^ 64) list) lists in
    let fits : length c.args.items.now.items + c.len-count.result ≤ 2 ^ 64 = omega (arith, c.deref_mut.type_inv.0, c.deref_mut.ensures.len, c.in_ok-append.ensures.len) in
    subst Q (sym c.requires.index) (lists_fit c.args.items.now.items c.len-count.result (2 ^ 64) fits)
