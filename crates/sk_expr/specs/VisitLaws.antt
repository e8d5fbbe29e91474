-- Rows and their names.
use Rattle.std.proofs.Common.{◌≡◌, ℕ, ◌<◌, ℤ, pos, List, [], ◌∷◌, length, get_or, map, refl, ap, arith}
use Rattle.std.proofs.lemmas.List.{get_or-map, length-map}
use Rattle.sk_expr.specs.Poly.{Poly, number}
use Rattle.sk_expr.specs.Rows.{NamedRow}
use Rattle.sk_expr.specs.Seen.{without_names}
use Rattle.sk_expr.specs.Tapes.{PlainTape, plain_tape, root_trees, row_tree, tree_at}
use Rattle.sk_expr.specs.Visits.{named, seen_of, system_of, IsTestable}
use Rattle.sk_expr.specs.declared.row.RowName.{RowName}
use Rattle.sk_expr.specs.declared.visited.Visited.{Visited}

pub named-trees : (ns : List RowName) (ts : List (Poly ℤ)) → length ns ≡ length ts → map (λ (r : NamedRow). r.tree) (named ns ts) ≡ ts
named-trees [] [] e = refl
named-trees [] (t ∷ ts) e = absurd (omega (arith, e))
named-trees (n ∷ ns) [] e = absurd (omega (arith, e))
named-trees (n ∷ ns) (t ∷ ts) e = λ j. t ∷ named-trees ns ts (omega (arith, e)) j

pub named-names : (ns : List RowName) (ts : List (Poly ℤ)) → length ns ≡ length ts → map (λ (r : NamedRow). r.name) (named ns ts) ≡ ns
named-names [] [] e = refl
named-names [] (t ∷ ts) e = absurd (omega (arith, e))
named-names (n ∷ ns) [] e = absurd (omega (arith, e))
named-names (n ∷ ns) (t ∷ ts) e = λ j. n ∷ named-names ns ts (omega (arith, e)) j

pub named-rows : (rs : List NamedRow) → named (map (λ (r : NamedRow). r.name) rs) (map (λ (r : NamedRow). r.tree) rs) ≡ rs
named-rows [] = refl
named-rows (r ∷ rs) = λ j. r ∷ named-rows rs j

-- what is seen of a visit, without the names, is what the test is given
pub without_names-seen : {s : ℕ} (params : ℕ) (v : Visited s) → IsTestable params v → without_names params (seen_of v) ≡ system_of params v
without_names-seen params v h =
    let l = length-map v.tape.roots (tree_at v.tape.nodes) in
    ap (λ (rows : List (Poly ℤ)). record { params = params; unknowns = v.unknowns; rows = rows; cosines = v.cosines; forced = (system_of params v).forced })
    (named-trees v.rows (root_trees (plain_tape v.tape)) (omega (arith, h.one_each, l)))

-- the row r of the system is the tree of the root r
pub rows-at : (t : PlainTape) (r : ℕ) → r < length t.roots → get_or (root_trees t) r (number (pos 0)) ≡ row_tree t r
rows-at t r h = get_or-map (tree_at t.nodes) t.roots r 0 (number (pos 0)) h
