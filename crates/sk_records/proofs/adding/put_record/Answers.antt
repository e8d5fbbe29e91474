use Rattle.std.proofs.Common.{◌≡◌, ◌<◌, ◌+◌, length, arith, ap, refl, ◌∙◌, length-drop}
use Rattle.sk_records.proofs.RoomMade.{on_err_any}
use Rattle.sk_records.proofs.Growth.{grown_none}
use Rattle.sk_records.specs.declared.rows.Span.{Span}
use Rattle.sk_records.specs.Blocks.{ended_line}
use Rattle.sk_records.specs.Holding.Held.{line_at}
use Rattle.sk_records.specs.Holding.Ready.{close_span}
use Rattle.sk_records.proofs.RecordGoes.{kept, goes_header, goes_behind, goes_tail}
use Rattle.sk_records.proofs.adding.put_record.Goals.{in-Header+in_ok-line-in-Header+in_ok-push_place-in-Header, in-Record+in_ok-line-in-Record+in_ok-push_place-in-Record, in-Tail+in_ok-push_place-in-Tail}
use Rattle.sk_records.proofs.adding.put_record.Goals as goal

pub returns-in_err-line-in-Header-clause-err : goal.returns-in_err-line-in-Header-clause-err
returns-in_err-line-in-Header-clause-err c = on_err_any c.from_residual.result (kept c.args.text.now.items c.push_ended.new.text.items c.args.header.now c.args.items.now.items c.args.places.now.items c.args.places.now.items c.push_ended.ensures.grown c.requires.first c.requires.held refl)

pub returns-in_err-push_place-in-Header-clause-err : goal.returns-in_err-push_place-in-Header-clause-err
returns-in_err-push_place-in-Header-clause-err c = on_err_any c.from_residual-in_err-push_place-in-Header.result (kept c.args.text.now.items c.push_ended.new.text.items c.args.header.now c.args.items.now.items c.args.places.now.items c.push_place.new.places.items c.push_ended.ensures.grown c.requires.first c.requires.held c.in_err-push_place-in-Header.ensures.err)

pub returns-in_err-line-in-Record-clause-err : goal.returns-in_err-line-in-Record-clause-err
returns-in_err-line-in-Record-clause-err c = on_err_any c.from_residual-in_err-line-in-Record.result (kept c.args.text.now.items c.push_ended-in-Record.new.text.items c.args.header.now c.args.items.now.items c.args.places.now.items c.args.places.now.items c.push_ended-in-Record.ensures.grown c.requires.first c.requires.held refl)

pub returns-in_err-push_place-in-Record-clause-err : goal.returns-in_err-push_place-in-Record-clause-err
returns-in_err-push_place-in-Record-clause-err c = on_err_any c.from_residual-in_err-push_place-in-Record.result (kept c.args.text.now.items c.push_ended-in-Record.new.text.items c.args.header.now c.args.items.now.items c.args.places.now.items c.push_place-in-Record.new.places.items c.push_ended-in-Record.ensures.grown c.requires.first c.requires.held c.in_err-push_place-in-Record.ensures.err)

pub index_mut-requires-3 : goal.index_mut-requires-3
index_mut-requires-3 c =
    let wide : c.args.ready.at + 1 < length c.args.items.now.items = omega (arith, ap length c.requires.ready.room.gone, length-drop c.args.ready.at c.args.items.now.items) in
    elim c.match-ready.branch [
      | in-Header+in_ok-line-in-Header+in_ok-push_place-in-Header w ↦ rw w.items-is (omega (arith, wide))
      | in-Record+in_ok-line-in-Record+in_ok-push_place-in-Record w ↦ rw w.items-is (omega (arith, wide))
      | in-Tail+in_ok-push_place-in-Tail w ↦ rw w.items-is (omega (arith, wide))
    ]

pub returns-clause-ok : goal.returns-clause-ok
returns-clause-ok c =
    let old = c.args.text.now.items in
    let items = c.args.items.now.items in
    elim c.match-ready.branch [
      | in-Header+in_ok-line-in-Header+in_ok-push_place-in-Header w ↦
          (let ready = rw w.in-Header.is at c.requires.ready in
          rw (w.text-is, w.header-is, w.items-is, w.places-is)
          (goes_header old w.push_ended.new.text.items c.args.kind c.args.header.now items c.args.ready.at c.args.new c.args.tail c.args.places.now.items w.push_place.new.places.items w.push_ended.ensures.grown c.requires.first c.requires.held c.requires.new w.in_ok-push_place-in-Header.ensures.ok
          w.in_ok-line-in-Header.line ready w.in_ok-line-in-Header.ensures.line w.in_ok-line-in-Header.ensures.within))
      | in-Record+in_ok-line-in-Record+in_ok-push_place-in-Record w ↦
          (let ready = rw w.in-Record.is at c.requires.ready in
          let line : line_at w.push_ended-in-Record.new.text.items w.in_ok-line-in-Record.line ≡ ended_line (line_at old (close_span w.index.result.now)) = w.in_ok-line-in-Record.ensures.line ∙ ap (λ (s : Span). ended_line (line_at old s)) (w.close_of.ensures) in
          rw (w.text-is, w.header-is, w.items-is, w.places-is, w.set_close.ensures)
          (goes_behind old w.push_ended-in-Record.new.text.items c.args.kind c.args.header.now items c.args.ready.at c.args.new c.args.tail c.args.places.now.items w.push_place-in-Record.new.places.items w.push_ended-in-Record.ensures.grown c.requires.first c.requires.held c.requires.new w.in_ok-push_place-in-Record.ensures.ok
          w.in-Record.place w.in_ok-line-in-Record.line w.index_mut.result.now w.index.result.now ready w.index_mut.ensures.value w.index.ensures line w.in_ok-line-in-Record.ensures.within))
      | in-Tail+in_ok-push_place-in-Tail w ↦
          (let ready = rw w.in-Tail.is at c.requires.ready in
          rw (w.text-is, w.header-is, w.items-is, w.places-is)
          (goes_tail old old c.args.kind c.args.header.now items c.args.ready.at c.args.new c.args.tail c.args.places.now.items w.push_place-in-Tail.new.places.items (grown_none old) c.requires.first c.requires.held c.requires.new w.in_ok-push_place-in-Tail.ensures.ok ready))
    ]

pub returns-clause-grown : goal.returns-clause-grown
returns-clause-grown c =
    elim c.match-ready.branch [
      | in-Header+in_ok-line-in-Header+in_ok-push_place-in-Header w ↦ rw w.text-is w.push_ended.ensures.grown
      | in-Record+in_ok-line-in-Record+in_ok-push_place-in-Record w ↦ rw w.text-is w.push_ended-in-Record.ensures.grown
      | in-Tail+in_ok-push_place-in-Tail w ↦ rw w.text-is (grown_none c.args.text.now.items)
    ]
