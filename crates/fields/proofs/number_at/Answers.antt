use mathlib.Core.Path.{◌∙◌}
use borrow.Author.Rules.{rules}
use Rattle.fields.proofs.InPlace.{number_few, number_other, number_letter, number_zero, spelling_one, spelling_end, spelling_letter, spelling_over, spelling_more}
use Rattle.fields.proofs.number_at.Goals.{then-s-at-lt2-via-then-s-at-lt2, then-s-at-lt2-via-else-s-at-lt2+then-s-at-ne-TAB, then-s-at-lt2-via-else-s-at-lt2+else-s-at-ne-TAB+then-not-is_ascii_digit}
use Rattle.fields.proofs.number_at.Goals as goal

pub returns-then-s-at-lt2 : goal.returns-then-s-at-lt2
returns-then-s-at-lt2 c =
    c.unread.ensures
    ∙ elim c.then-s-at-lt2.branch [
      | then-s-at-lt2-via-then-s-at-lt2 w ↦ number_few _ _ c.requires w.if-s-at-lt2.true
      | then-s-at-lt2-via-else-s-at-lt2+then-s-at-ne-TAB w ↦ search (number_other, rules)
      | then-s-at-lt2-via-else-s-at-lt2+else-s-at-ne-TAB+then-not-is_ascii_digit w ↦ number_letter _ _ w.if-s-at-lt2.false w.if-s-at-ne-TAB.false w.if-not-is_ascii_digit.ensures.cases
    ]

pub returns-then-value-eq0 : goal.returns-then-value-eq0
returns-then-value-eq0 c = search (number_zero, rules, c.if-not-is_ascii_digit.ensures.cases)

pub loop-i-init : goal.loop-i-init
loop-i-init c = search (spelling_one, rules, c.if-not-is_ascii_digit.ensures.cases)

pub returns-then-not-is_ascii_digit-2 : goal.returns-then-not-is_ascii_digit-2
returns-then-not-is_ascii_digit-2 c = search (spelling_letter, rules, c.if-not-is_ascii_digit-2.ensures.cases)

pub returns-then-more-ge-NO_NUMBER : goal.returns-then-more-ge-NO_NUMBER
returns-then-more-ge-NO_NUMBER c = search (spelling_over, rules, c.if-not-is_ascii_digit-2.ensures.cases)

pub loop-i-preserved : goal.loop-i-preserved
loop-i-preserved c = search (spelling_more, rules, c.if-not-is_ascii_digit-2.ensures.cases)

pub returns : goal.returns
returns c = search (spelling_end, rules)
