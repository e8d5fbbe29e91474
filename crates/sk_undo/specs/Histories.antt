-- The last 64 changes, and how many of them can be undone.
use Rattle.std.specs.Prelude.{ℕ, zero, suc, ◌+◌, ◌-◌, ◌≤◌, List, [], ◌∷◌, ◌++◌, length, take, drop, slice_get, Option, None, is_some, if◌then◌else◌}
use Rattle.sk_undo.specs.declared.entry.Entry.{Entry}

-- the entries, oldest first; those from the place on can be redone
pub record Past : Type 0 where
  pub entries : List Entry
  pub place : ℕ

pub record IsPast (h : Past) : Type 0 where
  pub place : h.place ≤ length h.entries
  pub few : length h.entries ≤ 64

abbrev pub no_past : Past
no_past = record { entries = []; place = 0 }

-- the last 64 of a list
abbrev pub last_64 : List Entry → List Entry
last_64 es = drop (length es - 64) es

-- What could be redone goes, and the oldest past 64.
abbrev pub kept : Past → Entry → Past
kept h e =
    let es = last_64 (take h.place h.entries ++ e ∷ []) in
    record { entries = es; place = length es }

abbrev pub placed : Past → ℕ → Past
placed h place = record { entries = h.entries; place = place }

-- the last entry that can be undone, and the first that can be redone
abbrev pub before : ℕ → List Entry → Option Entry
before zero es = None
before (suc n) es = slice_get es n

abbrev pub to_undo : Past → Option Entry
to_undo h = before h.place h.entries

abbrev pub to_redo : Past → Option Entry
to_redo h = slice_get h.entries h.place

-- one step back, or on, where there is such an entry
abbrev pub undone : Past → Past
undone h = placed h (h.place - 1)

abbrev pub redone : Past → Past
redone h = if is_some (to_redo h) then placed h (h.place + 1) else h
