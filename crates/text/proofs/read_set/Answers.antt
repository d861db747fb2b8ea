-- `read_set` meets its contract.
use mathlib.Core.Path.{◌∙◌}
use Rattle.text.proofs.Halves.{set_bad, set_wide, set_low, set_high, set_is}
use Rattle.text.proofs.read_set.Goals as goal
use Rattle.text.proofs.read_set.Goals.{then-s-digits-via-then-s-digits, then-s-digits-via-else-s-digits+then-digits}

pub returns-then-s-digits : goal.returns-then-s-digits
returns-then-s-digits c =
    elim c.then-s-digits.branch [ then-s-digits-via-then-s-digits w ↦ search set_bad | then-s-digits-via-else-s-digits+then-digits w ↦ search set_wide ]

pub returns-in_err-read_half : goal.returns-in_err-read_half
returns-in_err-read_half c =
    let cut = c.split_at.ensures in
    c.from_residual.ensures ∙ set_low _ _ c.if-s-digits.false c.if-digits.false _ c.saturating_sub.ensures _ _ cut.front cut.back _ c.read_half.ensures c.in_err-read_half.was

pub returns-in_err-read_half-2 : goal.returns-in_err-read_half-2
returns-in_err-read_half-2 c =
    let cut = c.split_at.ensures in
    c.from_residual-in_err-read_half-2.ensures ∙ set_high _ _ c.if-s-digits.false c.if-digits.false _ c.saturating_sub.ensures _ _ cut.front cut.back _ c.read_half.ensures _ c.in_ok-read_half.was _ c.read_half-2.ensures c.in_err-read_half-2.was

pub returns : goal.returns
returns c =
    let cut = c.split_at.ensures in
    set_is _ _ c.if-s-digits.false c.if-digits.false _ c.saturating_sub.ensures _ _ cut.front cut.back _ c.read_half.ensures _ c.in_ok-read_half.was _ c.read_half-2.ensures _ c.in_ok-read_half-2.was
