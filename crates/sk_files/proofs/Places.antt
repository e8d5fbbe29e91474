-- The place of a file with a name, and what setting the file there makes of the folder.
use Rattle.std.proofs.Common.{Result, Ok, Err, OnOk, OnErr, ◌≡◌, ℕ, zero, suc, ◌+◌, ◌<◌, ◌≤◌, List, [], ◌∷◌, ◌++◌, length, Option, Some, None, false, cond, inl, inr, refl, sym, ap, ◌∙◌, arith, get_or, string_bytes}
use Rattle.std.specs.Str.{bytes_eq}
use Rattle.std.proofs.lemmas.Bool.{cases_Bool}
use Rattle.std.proofs.lemmas.Grind.{common_steps}
use Rattle.std.proofs.lemmas.Slice.Eq.{bytes_eq-Decides}
use Rattle.std.specs.List.{slice_set}
use Rattle.sk_files.specs.declared.mem_folder.Held.{Held}
use Rattle.sk_files.specs.Files.{Files, held, with_file, IsOnceEach}
use Rattle.sk_files.specs.Mem.{files_of, place_from}
use Rattle.std.proofs.lemmas.List.{map-set, map-append, length-map}

-- a file as its name and its bytes
abbrev shown : Held → List ℕ × List ℕ
shown h = (string_bytes h.name, h.bytes.items)

pub place_from-bounds : (name : List ℕ) (i : ℕ) (fs : Files) (p : ℕ) → place_from name i fs ≡ Some p → (i ≤ p) × (p < i + length fs)
place_from-bounds name i [] p e = absurd (cc)
place_from-bounds name i (f ∷ fs) p e = elim (cases_Bool (bytes_eq f.0 name)) [
  | inl y ↦ let q : p ≡ i = grind (arith, common_steps, e, y) in (omega arith, omega arith)
  | inr n ↦ let q : place_from name (suc i) fs ≡ Some p = grind (arith, common_steps, e, n) in
      let b = place_from-bounds name (suc i) fs p q in (omega (arith, b.0), omega (arith, b.1))
]

pub with_file-new : (name bytes : List ℕ) (i : ℕ) (fs : Files) → place_from name i fs ≡ None → with_file fs name bytes ≡ fs ++ (name, bytes) ∷ []
with_file-new name bytes i [] e = refl
with_file-new name bytes i (f ∷ fs) e = elim (cases_Bool (bytes_eq f.0 name)) [
  | inl y ↦ absurd (grind (arith, common_steps, e, y))
  | inr n ↦ let q : place_from name (suc i) fs ≡ None = grind (arith, common_steps, e, n) in
      rw n (ap (λ (r : Files). f ∷ r) (with_file-new name bytes (suc i) fs q))
]

-- The file at the place k of the list is given other bytes.
pub with_file-at : (name : List ℕ) (i k p : ℕ) (fs : Files) (f : List ℕ × List ℕ) (bytes : List ℕ)
    → place_from name i fs ≡ Some p → p ≡ i + k → f ≡ get_or fs k f → with_file fs name bytes ≡ slice_set fs k (f.0, bytes)
with_file-at name i k p [] f bytes e q is = absurd (cc)
with_file-at name i zero p (g ∷ fs) f bytes e q is = elim (cases_Bool (bytes_eq g.0 name)) [
  | inl y ↦ rw y (ap (λ (h : List ℕ × List ℕ). (h.0, bytes) ∷ fs) (sym is))
  | inr n ↦ let r : place_from name (suc i) fs ≡ Some p = grind (arith, common_steps, e, n) in
      absurd (omega (arith, (place_from-bounds name (suc i) fs p r).0))
]
with_file-at name i (suc k) p (g ∷ fs) f bytes e q is = elim (cases_Bool (bytes_eq g.0 name)) [
  | inl y ↦ let r : p ≡ i = grind (arith, common_steps, e, y) in absurd (omega arith)
  | inr n ↦ let r : place_from name (suc i) fs ≡ Some p = grind (arith, common_steps, e, n) in
      rw n (ap (λ (rest : Files). g ∷ rest) (with_file-at name (suc i) k p fs f bytes r (omega arith) is))
]

-- A file under another name stays as it was.
pub held-with_file : (fs : Files) (name bytes other : List ℕ) → bytes_eq name other ≡ false → held (with_file fs name bytes) other ≡ held fs other
held-with_file [] name bytes other n = rw n refl
held-with_file (f ∷ fs) name bytes other n = elim (cases_Bool (bytes_eq f.0 name)) [
  | inl y ↦ rw y (let same : f.0 ≡ name = (bytes_eq-Decides f.0 name).0 y in let m : bytes_eq f.0 other ≡ false = ap (λ (t : List ℕ). bytes_eq t other) same ∙ n in simp m)
  | inr m ↦ rw m (ap (λ (r : Option (List ℕ)). cond (bytes_eq f.0 other) (Some f.1) r) (held-with_file fs name bytes other n))
]

apart : (xs ys : List ℕ) → bytes_eq xs ys ≡ false → bytes_eq ys xs ≡ false
apart xs ys n = elim (cases_Bool (bytes_eq ys xs)) [
  | inl y ↦ let e : ys ≡ xs = (bytes_eq-Decides ys xs).0 y in absurd (grind (arith, common_steps, e, n, bytes_eq-Decides xs ys))
  | inr m ↦ m
]

pub with_file-once : (fs : Files) (name bytes : List ℕ) → IsOnceEach fs → IsOnceEach (with_file fs name bytes)
with_file-once [] name bytes once = (refl, tt)
with_file-once (f ∷ fs) name bytes once = elim (cases_Bool (bytes_eq f.0 name)) [
  | inl y ↦ rw y (once.0, once.1)
  | inr n ↦ rw n (held-with_file fs name bytes f.0 (apart f.0 name n) ∙ once.0, with_file-once fs name bytes once.1)
]

get_or-shown : (files : List Held) (k : ℕ) (h : Held) → h ≡ get_or files k h → shown h ≡ get_or (files_of files) k (shown h)
get_or-shown [] k h e = refl
get_or-shown (f ∷ fs) zero h e = ap shown e
get_or-shown (f ∷ fs) (suc k) h e = get_or-shown fs k h e

pub files_of-bounds : (files : List Held) (name : List ℕ) (p : ℕ) → place_from name 0 (files_of files) ≡ Some p → p < length files
files_of-bounds files name p e =
    let b : p < 0 + length (files_of files) = (place_from-bounds name 0 (files_of files) p e).1 in
    omega (arith, length-map files shown)

pub files_of-set : (files : List Held) (name bytes : List ℕ) (p : ℕ) (h : Held) (held : Held) → place_from name 0 (files_of files) ≡ Some p
    → h ≡ get_or files p h → held.name ≡ h.name → held.bytes.items ≡ bytes → files_of (slice_set files p held) ≡ with_file (files_of files) name bytes
files_of-set files name bytes p h held e is same b =
    map-set shown files p held
    ∙ ap (λ (f : List ℕ × List ℕ). slice_set (files_of files) p f) (let q : shown held ≡ (string_bytes h.name, bytes) = simp (same, b) in q)
    ∙ sym (with_file-at name 0 p p (files_of files) (shown h) bytes e (omega arith) (get_or-shown files p h is))

pub files_of-push : (files : List Held) (name bytes : List ℕ) (held : Held) → place_from name 0 (files_of files) ≡ None
    → string_bytes held.name ≡ name → held.bytes.items ≡ bytes → files_of (files ++ held ∷ []) ≡ with_file (files_of files) name bytes
files_of-push files name bytes held e n b =
    map-append shown files (held ∷ [])
    ∙ ap (λ (f : List ℕ × List ℕ). files_of files ++ f ∷ []) (let q : shown held ≡ (name, bytes) = simp (n, b) in q)
    ∙ sym (with_file-new name bytes 0 (files_of files) e)

pub set-once : {E : Type 0} (old now : Files) (name bytes : List ℕ) (result : Result (Unit {0}) E) → IsOnceEach old
    → OnOk result (now ≡ with_file old name bytes) → OnErr result (now ≡ old) → IsOnceEach now
set-once old now name bytes (Ok x) once ok err = rw ok (with_file-once old name bytes once)
set-once old now name bytes (Err x) once ok err = rw err once
