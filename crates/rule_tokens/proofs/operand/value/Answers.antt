use Rattle.rule_tokens.proofs.operand.value.Goals as goal

pub returns-then-is_word : goal.returns-then-is_word
returns-then-is_word c = rw (← c.if-is_word.ensures)

pub returns-then-is_word-2 : goal.returns-then-is_word-2
returns-then-is_word-2 c = rw (← c.if-is_word.ensures, ← c.if-is_word-2.ensures)

pub returns-then-is_word-3 : goal.returns-then-is_word-3
returns-then-is_word-3 c = rw (← c.if-is_word.ensures, ← c.if-is_word-2.ensures, ← c.if-is_word-3.ensures)

pub returns-then-is_word-4 : goal.returns-then-is_word-4
returns-then-is_word-4 c = rw (← c.if-is_word.ensures, ← c.if-is_word-2.ensures, ← c.if-is_word-3.ensures, ← c.if-is_word-4.ensures)
