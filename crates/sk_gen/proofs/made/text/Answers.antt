use Rattle.std.proofs.Common.{◌++◌, ℕ, List, [], ap, ◌∙◌}
use Rattle.sk_gen.specs.MadeModel.{header, reference_group, drawing, extrusion, translation, of_lines, line_parameters, vectors, reference_requests, line_request, line_constraints, made_text}
use Rattle.sk_gen.proofs.Chains.{behind}
use Rattle.sk_gen.proofs.made.text.Goals as goal

pub returns : goal.returns
unfolding made_text
returns c =
    behind [] c.put_header.new.out.items c.put_line_constraints.new.out.items (header) (reference_group ++ (drawing ++ (extrusion ++ (translation ++ (of_lines c.args.n line_parameters ++ (vectors ++ (reference_requests ++ (of_lines c.args.n line_request ++ (of_lines c.args.n line_constraints))))))))) (c.in_ok-put_header.ensures ∙ ap (λ (t : List ℕ). t ++ header) c.new-out.ensures.items)
    (behind c.put_header.new.out.items c.put_reference_group.new.out.items c.put_line_constraints.new.out.items (reference_group) (drawing ++ (extrusion ++ (translation ++ (of_lines c.args.n line_parameters ++ (vectors ++ (reference_requests ++ (of_lines c.args.n line_request ++ (of_lines c.args.n line_constraints)))))))) c.in_ok-put_reference_group.ensures
    (behind c.put_reference_group.new.out.items c.put_drawing.new.out.items c.put_line_constraints.new.out.items (drawing) (extrusion ++ (translation ++ (of_lines c.args.n line_parameters ++ (vectors ++ (reference_requests ++ (of_lines c.args.n line_request ++ (of_lines c.args.n line_constraints))))))) c.in_ok-put_drawing.ensures
    (behind c.put_drawing.new.out.items c.put_extrusion.new.out.items c.put_line_constraints.new.out.items (extrusion) (translation ++ (of_lines c.args.n line_parameters ++ (vectors ++ (reference_requests ++ (of_lines c.args.n line_request ++ (of_lines c.args.n line_constraints)))))) c.in_ok-put_extrusion.ensures
    (behind c.put_extrusion.new.out.items c.put_translation.new.out.items c.put_line_constraints.new.out.items (translation) (of_lines c.args.n line_parameters ++ (vectors ++ (reference_requests ++ (of_lines c.args.n line_request ++ (of_lines c.args.n line_constraints))))) c.in_ok-put_translation.ensures
    (behind c.put_translation.new.out.items c.put_line_parameters.new.out.items c.put_line_constraints.new.out.items (of_lines c.args.n line_parameters) (vectors ++ (reference_requests ++ (of_lines c.args.n line_request ++ (of_lines c.args.n line_constraints)))) c.in_ok-put_line_parameters.ensures
    (behind c.put_line_parameters.new.out.items c.put_vectors.new.out.items c.put_line_constraints.new.out.items (vectors) (reference_requests ++ (of_lines c.args.n line_request ++ (of_lines c.args.n line_constraints))) c.in_ok-put_vectors.ensures
    (behind c.put_vectors.new.out.items c.put_reference_requests.new.out.items c.put_line_constraints.new.out.items (reference_requests) (of_lines c.args.n line_request ++ (of_lines c.args.n line_constraints)) c.in_ok-put_reference_requests.ensures
    (behind c.put_reference_requests.new.out.items c.put_line_requests.new.out.items c.put_line_constraints.new.out.items (of_lines c.args.n line_request) (of_lines c.args.n line_constraints) c.in_ok-put_line_requests.ensures
    (c.in_ok-put_line_constraints.ensures)))))))))
