-- What holds of every two texts.
use Rattle.std.specs.Prelude.{◌≡◌, ◌≤◌, ◌-◌, ℕ, List, length, take, drop}
use Rattle.sk_types.specs.declared.handle.GroupId.{GroupId}
use Rattle.sk_undo.specs.Changes.{agreed, agreed_behind, entry_between, earlier_text, later_text}

-- so many last bytes of a text
abbrev pub last : ℕ → List ℕ → List ℕ
last n text = drop (length text - n) text

-- Front and back are the greatest: the texts agree there, and in no more bytes. The back reaches into the front of neither. Each
-- text is made from the other.
pub record ChangeLaw : Type 0 where
  pub front : (xs ys : List ℕ) → take (agreed xs ys) xs ≡ take (agreed xs ys) ys
  pub front_most : (xs ys : List ℕ) (n : ℕ) → n ≤ length xs → n ≤ length ys → take n xs ≡ take n ys → n ≤ agreed xs ys
  pub front_fits : (xs ys : List ℕ) → (agreed xs ys ≤ length xs) × (agreed xs ys ≤ length ys)
  pub back : (n : ℕ) (xs ys : List ℕ) → last (agreed_behind n xs ys) xs ≡ last (agreed_behind n xs ys) ys
  pub back_most : (n : ℕ) (xs ys : List ℕ) (m : ℕ) → m ≤ length xs - n → m ≤ length ys - n → last m xs ≡ last m ys → m ≤ agreed_behind n xs ys
  pub back_fits : (n : ℕ) (xs ys : List ℕ) → (agreed_behind n xs ys ≤ length xs - n) × (agreed_behind n xs ys ≤ length ys - n)
  pub earlier : (dirty : List GroupId) (a b : List ℕ) → earlier_text (entry_between dirty a b) b ≡ a
  pub later : (dirty : List GroupId) (a b : List ℕ) → later_text (entry_between dirty a b) a ≡ b
