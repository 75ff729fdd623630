use Rattle.std.proofs.Common.{◌≡◌, ℕ, ◌+◌, ◌<◌, ◌∙◌, true, List, ◌∷◌, Some, length, drop, refl, sym, ap, ap₂, subst, arith, slice_range}
use Rattle.flowfile_record.specs.declared.TheConstants.{CONTENT_MAX}
use Rattle.regex.specs.Locations.{location, location_count}
use Rattle.regex.specs.Patterns.{Match, find_all_str}
use Rattle.regex.specs.Replace.{bytes_of, replaced_by}
use Rattle.regex.specs.Search.{matches_left, next_match}
use Rattle.regex.specs.Strings.{captures_left, group_count, matcher_pattern, regex_names, regex_pattern}
use Rattle.proc_text.specs.Shapes.{group_sizes, written_at}
use Rattle.proc_text.proofs.Matched.{as-long, match-size, rest-adds, size-more, size_behind, too-long}
use Rattle.proc_text.proofs.growth.fits.Goals as goal

pub returns-in_default-grown_by_match : goal.returns-in_default-grown_by_match
returns-in_default-grown_by_match c =
    let regex = c.args.regex.now in
    let text = c.args.text.now in
    let template = c.args.template.now in
    let shape = c.in_ok-shape.shape in
    let l = c.matches in
    let matcher = l.all.matcher.now in
    let written = written_at (regex_names regex) template text in
    let next = c.in-Some.ensures.found in
    let m = next.0 in
    let left = next.1 in
    let locations = c.next_read.new.locations in
    let here : next_match true (matcher_pattern matcher) text l.all.after ≡ Some m =
    subst (λ h. next_match true (matcher_pattern matcher) h l.all.after ≡ Some m) l.invariant.1 left.is_next in
    let counted : location_count locations ≡ group_count regex = c.in-Some.ensures.count ∙ l.invariant.3 in
    let size = match-size regex matcher text template shape l.all.after m locations c.utf8.text l.invariant.2 counted here next.3 c.in_ok-shape.ensures in
    let start : c.start.result ≡ m.start = c.start.ensures ∙ ap (λ (s : ℕ × ℕ). s.0) left.spans in
    let more = (l.size + length (slice_range text l.last m.start)) + length (written m) in
    let grown_is = ap₂ (λ a b. (l.size + length (slice_range text l.last a)) + b) start (sym size) in
    let long : CONTENT_MAX < more = subst (λ n. CONTENT_MAX < n) grown_is c.in_default-grown_by_match.ensures in
    let whole = size-more written text l.size l.last m (captures_left l.all) _ more left.first refl ∙ l.invariant.4 in
    too-long _ _ whole (omega (arith, long))

pub matches-preserved : goal.matches-preserved
matches-preserved c =
    let regex = c.args.regex.now in
    let text = c.args.text.now in
    let template = c.args.template.now in
    let shape = c.in_ok-shape.shape in
    let l = c.matches in
    let matcher = l.all.matcher.now in
    let written = written_at (regex_names regex) template text in
    let next = c.in-Some.ensures.found in
    let m = next.0 in
    let left = next.1 in
    let locations = c.next_read.new.locations in
    let here : next_match true (matcher_pattern matcher) text l.all.after ≡ Some m =
    subst (λ h. next_match true (matcher_pattern matcher) h l.all.after ≡ Some m) l.invariant.1 left.is_next in
    let counted : location_count locations ≡ group_count regex = c.in-Some.ensures.count ∙ l.invariant.3 in
    let size = match-size regex matcher text template shape l.all.after m locations c.utf8.text l.invariant.2 counted here next.3 c.in_ok-shape.ensures in
    let start : c.start.result ≡ m.start = c.start.ensures ∙ ap (λ (s : ℕ × ℕ). s.0) left.spans in
    let end : c.end-last.result ≡ m.trace.end = c.end-last.ensures ∙ ap (λ (s : ℕ × ℕ). s.1) left.spans in
    let more = c.in-Some-grown_by_match.more in
    let grown_is = ap₂ (λ a b. (l.size + length (slice_range text l.last a)) + b) start (sym size) in
    let behind = c.in-Some.ensures.rest ∙ ap (drop 1) left.first in (
      c.in-Some-grown_by_match.ensures.1,
      c.in-Some.ensures.within ∙ l.invariant.1,
      c.in-Some.ensures.names ∙ l.invariant.2,
      counted,
      ap₂ (λ e ms. size_behind written text more e ms) end behind
          ∙ size-more written text l.size l.last m (captures_left l.all) _ more left.first (c.in-Some-grown_by_match.ensures.0 ∙ grown_is)
          ∙ l.invariant.4,
    )

pub returns : goal.returns
returns c =
    let regex = c.args.regex.now in
    let text = c.args.text.now in
    let l = c.matches in
    let written = written_at (regex_names regex) c.args.template.now text in
    let rest : c.length_between.result ≡ length (replaced_by written text l.last (captures_left l.all)) =
    c.length_between.ensures ∙ sym (rest-adds written text l.last) ∙ ap (λ ms. length (replaced_by written text l.last ms)) (sym c.in_default.ensures.found) in
    c.is_some.ensures ∙ as-long _ _ c.grown.result (ap (λ n. l.size + n) rest ∙ l.invariant.4) c.grown.ensures
