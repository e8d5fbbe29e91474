-- The changed stretch of a text: what two texts have at their front and at their back is kept once.
use Rattle.std.specs.Prelude.{ℕ, ◌-◌, ◌==◌, List, ◌++◌, length, take, drop, reverse}
use Rattle.std.specs.List.{common_prefix_len}
use Rattle.sk_types.specs.declared.handle.GroupId.{GroupId}
use Rattle.sk_undo.specs.declared.entry.Entry.{Entry}

-- in how many bytes two texts agree from their start
abbrev pub agreed : List ℕ → List ℕ → ℕ
agreed xs ys = common_prefix_len (λ x y. x == y) xs ys

-- in how many bytes they agree from their end, behind the first n of each
abbrev pub agreed_behind : ℕ → List ℕ → List ℕ → ℕ
agreed_behind n xs ys = agreed (reverse (drop n xs)) (reverse (drop n ys))

-- what stands between so many bytes at the front and so many at the back
abbrev pub between : ℕ → ℕ → List ℕ → List ℕ
between front back text = take (length text - front - back) (drop front text)

abbrev pub entry_between : List GroupId → List ℕ → List ℕ → Entry
entry_between dirty earlier later =
    let front = agreed earlier later in
    let back = agreed_behind front earlier later in
    record { dirty = dirty; front = front; back = back; earlier = between front back earlier; later = between front back later }

-- a text with another stretch between its front and its back
abbrev pub replaced : ℕ → ℕ → List ℕ → List ℕ → List ℕ
replaced front back middle text = take front text ++ (middle ++ drop (length text - back) text)

abbrev pub earlier_text : Entry → List ℕ → List ℕ
earlier_text e later = replaced e.front e.back e.earlier later

abbrev pub later_text : Entry → List ℕ → List ℕ
later_text e earlier = replaced e.front e.back e.later earlier
