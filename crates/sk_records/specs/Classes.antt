-- What a line is (SolveSpace's file format).
use Rattle.std.specs.Prelude.{ℕ, List, [], ◌∷◌, Option, Some, None, Bool, true, false, if◌then◌else◌, nat_eq, nat_le, codes, length, take, drop}
use Rattle.std.specs.Option.{option_and_then}
use Rattle.std.specs.Str.{bytes_eq}
use Rattle.std.specs.List.{list_any}
use Rattle.sk_text.specs.Lines.{is_empty}
use Rattle.sk_records.specs.declared.kinds.Kind.{Kind}
use Rattle.sk_records.specs.declared.kinds.Kind.TheVariants.{Group, Param, Request, Entity, Constraint, Style}
use Rattle.sk_records.specs.Kinds.{prefix_of, closing_of}
pub use Rattle.sk_records.specs.declared.classes.LineClass.{LineClass}
pub use Rattle.sk_records.specs.declared.classes.LineClass.TheVariants.{Empty, Value, Opens, Closes, Surface, Unknown}

-- the first line of a text: the bytes B1 B2 B3, then `SolveSpaceREVa`
abbrev pub is_header : List ℕ → Bool
is_header body = bytes_eq body (177 ∷ 178 ∷ 179 ∷ codes "SolveSpaceREVa")

abbrev pub is_opening : List ℕ → Bool
is_opening body = bytes_eq body (codes "Group.remap={")

-- the line that closes a remap list
abbrev pub is_shut : List ℕ → Bool
is_shut body = bytes_eq body (codes "}")

abbrev pub starts : List ℕ → List ℕ → Bool
starts word body = bytes_eq (take (length word) body) word

-- a prefix, then a line part with a `=`
abbrev pub is_value : List ℕ → List ℕ → Bool
is_value prefix body = if starts prefix body then list_any (λ b. nat_eq b 61) (drop (length prefix) body) else false

-- the kind whose record a line closes
unfoldable pub closed_kind : List ℕ → Option Kind
closed_kind body =
    if bytes_eq body (closing_of Group) then Some Group else
    if bytes_eq body (closing_of Param) then Some Param else
    if bytes_eq body (closing_of Request) then Some Request else
    if bytes_eq body (closing_of Entity) then Some Entity else
    if bytes_eq body (closing_of Constraint) then Some Constraint else
    if bytes_eq body (closing_of Style) then Some Style else
    None

-- the kind of a value line
unfoldable pub value_kind : List ℕ → Option Kind
value_kind body =
    if is_value (prefix_of Group) body then Some Group else
    if is_value (prefix_of Param) body then Some Param else
    if is_value (prefix_of Request) body then Some Request else
    if is_value (prefix_of Entity) body then Some Entity else
    if is_value (prefix_of Constraint) body then Some Constraint else
    if is_value (prefix_of Style) body then Some Style else
    None

-- a stored surface line, which nothing reads
unfoldable pub is_surface : List ℕ → Bool
is_surface body =
    if starts (codes "Triangle ") body then true else
    if starts (codes "Surface ") body then true else
    if starts (codes "SCtrl ") body then true else
    if starts (codes "TrimBy ") body then true else
    if starts (codes "Curve ") body then true else
    if starts (codes "CCtrl ") body then true else
    if starts (codes "CurvePt ") body then true else
    if bytes_eq body (codes "AddSurface") then true else
    bytes_eq body (codes "AddCurve")

abbrev pub surface_class : Bool → LineClass
surface_class true = Surface
surface_class false = Unknown

abbrev pub value_class : Option Kind → List ℕ → LineClass
value_class None body = surface_class (is_surface body)
value_class (Some k) body = Value k

abbrev pub closing_class : Option Kind → List ℕ → LineClass
closing_class None body = value_class (value_kind body) body
closing_class (Some k) body = Closes k

-- what a line outside of a remap list is
unfoldable pub class_of : List ℕ → LineClass
class_of body =
    if is_empty body then Empty else
    if is_opening body then Opens else
    closing_class (closed_kind body) body

-- ---- an entry of a remap list

abbrev pub is_space : ℕ → Bool
is_space b = nat_eq b 32

abbrev pub between : ℕ → ℕ → ℕ → Bool
between low high b = if nat_le low b then nat_le b high else false

-- `0` to `9`
abbrev pub is_digit : ℕ → Bool
is_digit b = between 48 57 b

-- `0` to `9`, `a` to `f`, `A` to `F`
abbrev pub is_hex_digit : ℕ → Bool
is_hex_digit b = if is_digit b then true else if between 97 102 b then true else between 65 70 b

-- what is left behind the bytes that pass at the front
abbrev pub after_run : (ℕ → Bool) → List ℕ → List ℕ
after_run p [] = []
after_run p (b ∷ bs) = if p b then after_run p bs else b ∷ bs

-- the same, where at least one byte passes
abbrev pub after_part : (ℕ → Bool) → List ℕ → Option (List ℕ)
after_part p [] = None
after_part p (b ∷ bs) = if p b then Some (after_run p bs) else None

abbrev pub after_parts : List (ℕ → Bool) → List ℕ → Option (List ℕ)
after_parts [] body = Some body
after_parts (p ∷ ps) body = option_and_then (after_parts ps) (after_part p body)

abbrev pub is_nothing : Option (List ℕ) → Bool
is_nothing None = false
is_nothing (Some rest) = is_empty rest

-- spaces, decimal digits, spaces, hexadecimal digits, spaces, decimal digits: at least one of each, and no more
unfoldable pub is_entry : List ℕ → Bool
is_entry body = is_nothing (after_parts (is_space ∷ is_digit ∷ is_space ∷ is_hex_digit ∷ is_space ∷ is_digit ∷ []) body)
