use Rattle.std.proofs.Common.{◌∷◌, [], List, ℕ, length, map, ap, arith, length-append}
use Rattle.sk_text.specs.Lines.{TextLine, lines_in}
use Rattle.sk_text.specs.Lines as lines
use Rattle.sk_records.specs.Blocks.{Loose}
use Rattle.sk_records.proofs.Growth.{bytes_put}
use Rattle.sk_records.proofs.adding.push_feed.Goals as goal

pub returns-clause-feed : goal.returns-clause-feed
unfolding lines.end_len
returns-clause-feed c =
    let old = c.args.text.now.items in
    let new = c.push.new.self.items in
    ap (λ (b : List ℕ). map Loose (lines_in b)) (bytes_put old (10 ∷ []) new c.len-start.result c.len-end.result c.in_ok-push.ensures.items (omega arith) (omega (arith, ap length c.in_ok-push.ensures.items, length-append old (10 ∷ []))))
