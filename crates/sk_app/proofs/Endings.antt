-- How runs end: after all pieces, or short of memory.
use Rattle.std.proofs.Common.{◌≡◌, ◌⊎◌, ◌≤◌, ℕ, List, [], ◌++◌, length, Option, take, inl, inr, ap, sym, ◌∙◌, refl, subst, append-nil, arith}
use Rattle.std.proofs.Math.Seq.{take-length}
use Rattle.std.proofs.lemmas.Grind.{flat_map-append}
use Rattle.sk_files.specs.Files.{Files}
use Rattle.sk_files.specs.Outcome.{Rose}
use Rattle.sk_files.specs.Taken.{Takes, TakesPrefix}
use Rattle.sk_files.specs.TakenLaws.{Takes-then, TakesPrefix-then}
use Rattle.sk_app.specs.declared.status.End.{End}
use Rattle.sk_app.specs.declared.status.End.TheVariants.{Full, WriteFailed, SinkFailed, NoMemory}
use Rattle.sk_app.specs.Answer.{Answer}
use Rattle.sk_app.specs.Ends.{AreKept, Ends, Finishes, TakesLine, joined, memory_line, run_over, write_line}

joined-append : (xs ys : List (List ℕ)) → joined (xs ++ ys) ≡ joined xs ++ joined ys
joined-append xs ys = flat_map-append (λ (piece : List ℕ). piece) xs ys

pub rose_later : (a b d : ℕ) → b ≤ d → Rose a b → Rose a d
rose_later a b d le rose = omega arith

pub rose_since : (a b d : ℕ) → a ≤ b → Rose b d → Rose a d
rose_since a b d le rose = omega arith

kept_since : (before now : Option Files) (file : Option (List ℕ × List ℕ)) (a b d : ℕ) → a ≤ b → AreKept before now (Rose b d) file → AreKept before now (Rose a d) file
kept_since before now file a b d le (inl e) = inl e
kept_since before now file a b d le (inr (rose, kept)) = inr (rose_since a b d le rose, kept)

-- more pieces behind all of them
behind : (x y z : Option (List ℕ)) (pieces more : List (List ℕ)) → Takes x y (joined pieces) → Takes y z (joined more) → Takes x z (joined (pieces ++ more))
behind x y z pieces more took then = Takes-then x y z (joined pieces) (joined more) (joined (pieces ++ more)) took then (joined-append pieces more)

part_behind : (x y z : Option (List ℕ)) (pieces more : List (List ℕ)) → Takes x y (joined pieces) → TakesPrefix y z (joined more) → TakesPrefix x z (joined (pieces ++ more))
part_behind x y z pieces more took cut =
    TakesPrefix-then x y z (joined pieces) (joined more) [] (joined (pieces ++ more)) took cut
    (joined-append pieces more ∙ ap (λ (r : List ℕ). joined pieces ++ r) (sym (append-nil (joined more))))

nothing_behind : (x y z : Option (List ℕ)) (bytes : List ℕ) → Takes x y bytes → Takes y z [] → Takes x z bytes
nothing_behind x y z bytes took then = Takes-then x y z bytes [] bytes took then (sym (append-nil bytes))

module _ (answer : Answer) (x y z : Option (List ℕ)) (f f' : Option Files) (n m c c' c'' d d' d'' : ℕ) where
  -- some whole pieces were taken, then the put of the line on want of memory ended so; all files stay
  pub ends_by_memory : (count : ℕ) (end : End) → f' ≡ f → Takes x y (joined (take count answer.pieces)) → (end ≡ SinkFailed) ⊎ (end ≡ NoMemory)
      → (end ≡ SinkFailed → Rose d d'' × TakesPrefix y z (joined memory_line)) → (end ≡ NoMemory → TakesLine y z) → Ends answer (run_over x z f f' n m c c'' d d'') end
  ends_by_memory count (Full status) same took cut sink memory = elim cut [ inl e ↦ absurd cc | inr e ↦ absurd cc ]
  ends_by_memory count WriteFailed same took cut sink memory = elim cut [ inl e ↦ absurd cc | inr e ↦ absurd cc ]
  ends_by_memory count SinkFailed same took cut sink memory =
      let s = sink refl in (
        s.0,
        record { all = take count answer.pieces ++ memory_line; reached = inr (inr (count, refl)); taken = part_behind x y z (take count answer.pieces) memory_line took s.1 },
        inl same,
      )
  ends_by_memory count NoMemory same took cut sink memory = (
    record {
      count = count;
      taken = elim (memory refl) [
        | inl t ↦ inl (nothing_behind x y z (joined (take count answer.pieces)) took t)
        | inr t ↦ inr (behind x y z (take count answer.pieces) memory_line took t)
      ];
    },
    inl same,
  )

  -- all pieces were taken, and the run finished so
  pub ends_by_finish : (end : End) → c ≤ c' → d ≤ d' → Takes x y (joined answer.pieces) → Finishes answer (run_over y z f f' 0 0 c' c'' d' d'') end → Ends answer (run_over x z f f' n m c c'' d d'') end
  ends_by_finish (Full status) lc ld took (status_is, still, written) = (status_is, subst (λ (t : Option (List ℕ)). Takes x t (joined answer.pieces)) (sym still) took, written)
  ends_by_finish WriteFailed lc ld took (rose, wrote, kept) = (rose_since c c' c'' lc rose, behind x y z answer.pieces (write_line answer.file) took wrote, kept)
  ends_by_finish SinkFailed lc ld took (rose, inl cut, kept) = (
    rose_since d d' d'' ld rose,
    record { all = answer.pieces ++ write_line answer.file; reached = inr (inl refl); taken = part_behind x y z answer.pieces (write_line answer.file) took cut },
    kept_since f f' answer.file c c' c'' lc kept,
  )
  ends_by_finish SinkFailed lc ld took (rose, inr cut, kept) = (
    rose_since d d' d'' ld rose,
    record {
      all = answer.pieces ++ memory_line;
      reached = inr (inr (length answer.pieces, ap (λ (ps : List (List ℕ)). ps ++ memory_line) (sym (take-length answer.pieces))));
      taken = part_behind x y z answer.pieces memory_line took cut;
    },
    kept_since f f' answer.file c c' c'' lc kept,
  )
  ends_by_finish NoMemory lc ld took (line, kept) = (
    record {
      count = length answer.pieces;
      taken = elim line [
        | inl t ↦ inl (rw (take-length answer.pieces) (nothing_behind x y z (joined answer.pieces) took t))
        | inr t ↦ inr (rw (take-length answer.pieces) (behind x y z answer.pieces memory_line took t))
      ];
    },
    kept_since f f' answer.file c c' c'' lc kept,
  )

  -- the sink failed at a piece
  pub ends_by_sink : f' ≡ f → Rose d d'' → TakesPrefix x z (joined answer.pieces) → Ends answer (run_over x z f f' n m c c'' d d'') SinkFailed
  ends_by_sink same rose cut = (rose, record { all = answer.pieces; reached = inl refl; taken = cut }, inl same)
