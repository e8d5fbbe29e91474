use Rattle.std.proofs.Common.{◌≡◌, pos, get_or, sym, arith}
use Rattle.std.proofs.lemmas.List.{get_or_read_under}
use Rattle.sk_geom.specs.Quaternions.{quaternion_axes}
use Rattle.sk_dxf.specs.Spans.{plain_spans}
use Rattle.sk_dxf.proofs.SpanLemmas.{plain-sum, plain-difference}
use Rattle.sk_dxf.proofs.spans.axis_u.Goals as goal

pub returns : goal.returns
unfolding quaternion_axes plain_spans
returns g c =
    let q = c.args.q.now in
    let w : c.index-q-0.result ≡ get_or q 0 (pos 0) = get_or_read_under q 0 4 c.index-q-0.result (pos 0) c.index-q-0.is (omega arith) (sym c.type_inv.q) in
    let x : c.index-q-1.result ≡ get_or q 1 (pos 0) = get_or_read_under q 1 4 c.index-q-1.result (pos 0) c.index-q-1.is (omega arith) (sym c.type_inv.q) in
    let y : c.index-q-2.result ≡ get_or q 2 (pos 0) = get_or_read_under q 2 4 c.index-q-2.result (pos 0) c.index-q-2.is (omega arith) (sym c.type_inv.q) in
    let z : c.index-q-3.result ≡ get_or q 3 (pos 0) = get_or_read_under q 3 4 c.index-q-3.result (pos 0) c.index-q-3.is (omega arith) (sym c.type_inv.q) in
    simp (plain-sum, plain-difference) (cc)
