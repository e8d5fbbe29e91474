use Rattle.std.proofs.Common.{◌≡◌, ℕ, ℤ, length, List, ◌++◌, map, ◌∙◌, append_assoc}
use Rattle.std.specs.List.{enumerate_from, flat_map}
use Rattle.std.proofs.lemmas.List.{length-map}
use Rattle.std.proofs.lemmas.List.FromFn.{length-enumerate_from}
use Rattle.sk_types.specs.declared.handle.ParamId.{ParamId}
use Rattle.sk_krawczyk.specs.declared.certificate.Certificate.{Certificate}
use Rattle.sk_report.specs.Block.{param_handle, params_in, coordinate, coordinates, printed_box}
use Rattle.sk_report.specs.ReportText.{count_line, bound_line, held_line, suspect_line, coordinate_line, box_text}
use Rattle.sk_report.proofs.block.push_box.Goals as goal

five_pieces : (old a b c d e p q r s t : List ℕ) → a ≡ old ++ p → b ≡ a ++ q → c ≡ b ++ r → d ≡ c ++ s → e ≡ d ++ t → e ≡ old ++ (p ++ (q ++ (r ++ (s ++ t))))
five_pieces old a b c d e p q r s t ea eb ec ed ee = rw (ee, ed, ec, eb, ea) (simp append_assoc)

length-coordinates : {s : ℕ} (params : List ParamId) (k : Certificate s) (c : ℕ) (numbers : List ℤ) → length (coordinates params k c numbers) ≡ length numbers
unfolding coordinates
length-coordinates params k c numbers = length-map (enumerate_from c numbers) (coordinate params k) ∙ length-enumerate_from c numbers

boxed : {s : ℕ} (params : List ParamId) (k : Certificate s) (held : List ParamId) (unknowns retained free : ℕ) (old a b c d e : List ℕ) →
    held ≡ params_in params k.held → unknowns ≡ length k.centre → retained ≡ length k.retained → free ≡ length held →
    a ≡ old ++ count_line unknowns retained free → b ≡ a ++ bound_line k.bound k.spread → c ≡ b ++ held_line (map param_handle held) → d ≡ c ++ flat_map suspect_line k.suspects →
    e ≡ d ++ flat_map coordinate_line (coordinates params k 0 k.centre) → e ≡ old ++ box_text (printed_box params k)
unfolding box_text printed_box
boxed params k held unknowns retained free old a b c d e h u r f ea eb ec ed ee =
    rw (length-coordinates params k 0 k.centre, length-map (params_in params k.held) param_handle, ← h)
    (five_pieces old a b c d e (count_line (length k.centre) (length k.retained) (length held)) (bound_line k.bound k.spread) (held_line (map param_handle held)) (flat_map suspect_line k.suspects)
    (flat_map coordinate_line (coordinates params k 0 k.centre)) (rw (u, r, f) at ea) eb ec ed ee)

pub returns : goal.returns
returns g c =
    boxed c.args.params.now c.args.certificate.now c.in_ok-held.held.items (length c.as_slice-unknowns.result.now) (length c.as_slice-retained.result.now) c.len.result c.args.out.now.items c.push_counts.new.out.items
    c.push_bound.new.out.items c.push_held.new.out.items c.push_suspects.new.out.items c.push_coordinates.new.out.items
    (cc (c.in_ok-held.ensures, c.as_slice.ensures)) (cc (c.as_slice-unknowns.ensures)) (cc (c.as_slice-retained.ensures)) (cc (c.len.ensures))
    (cc (c.in_ok-push_counts.ensures)) (cc (c.in_ok-push_bound.ensures)) (cc (c.in_ok-push_held.ensures, c.deref.ensures.value)) (cc (c.in_ok-push_suspects.ensures, c.as_slice-2.ensures)) (cc (c.in_ok-push_coordinates.ensures))
