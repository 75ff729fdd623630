-- How long a text becomes whose matches are replaced by what a template stands for.
use Rattle.std.specs.Prelude.{◌≡◌, ℕ, ◌+◌, ◌<◌, ◌≤◌, List, length, drop, Option, Some, None}
use Rattle.std.specs.List.{sum_by}
use Rattle.flowfile_record.specs.declared.TheConstants.{CONTENT_MAX}
use Rattle.regex.specs.Patterns.{Match}
use Rattle.regex.specs.Replace.{group_bytes}
use Rattle.regex.specs.Templates.{text_or_nothing, written_after}
use Rattle.proc_text.specs.declared.template.Shape.{Shape}
use Rattle.proc_text.specs.declared.template.Front.{Front}

-- what a template writes at a match
abbrev pub written_at : (names : List (Option (List ℕ))) → (template text : List ℕ) → Match → List ℕ
written_at names template text match = written_after names (group_bytes text match) template 0

-- how many bytes these groups matched together
abbrev pub group_sizes : (text_of : ℕ → List ℕ) → (groups : List ℕ) → ℕ
group_sizes text_of groups = sum_by (λ n. length (text_of n)) groups

-- whatever the groups matched, a template writes so many bytes of its own, and what these groups matched
abbrev pub IsShapeOf : (names : List (Option (List ℕ))) → (template : List ℕ) → Shape → Type 0
IsShapeOf names template shape = (text_of : ℕ → List ℕ) →
    length (written_after names text_of template 0) ≡ shape.own + group_sizes text_of shape.groups.items

-- whatever the groups matched, a template writes so many bytes and what this group matched, and then what follows writes
abbrev pub IsFrontOf : (names : List (Option (List ℕ))) → (template : List ℕ) → Front → Type 0
IsFrontOf names template front = (text_of : ℕ → List ℕ) →
    length (written_after names text_of template 0)
    ≡ (front.own + length (text_or_nothing names text_of front.group))
    + length (written_after names text_of (drop front.len template) 0)

-- a size, where a content may have it
abbrev pub IsWithin : (size : ℕ) → Option ℕ → Type 0
IsWithin size (Some n) = (n ≡ size) × (n ≤ CONTENT_MAX)
IsWithin size None = CONTENT_MAX < size
