use Rattle.std.proofs.Common.{◌≡◌, ◌+◌, ◌≤◌, length, None}
use Rattle.words.specs.Nests.{nesting}
use Rattle.words.specs.Words.{words, unread}
use Rattle.words.proofs.Surveying.{conclude}
use Rattle.words.proofs.survey.survey.Given as goal

abbrev pub invariant-loop-word : goal.invariant-loop-word
invariant-loop-word l =
    (conclude l.nesting l.words (unread l.word-iterator) ≡ conclude (nesting 0 0 None) 0 (words l.text))
    × (l.words + length (unread l.word-iterator) ≡ length (words l.text))
    × (l.nesting.depth ≤ l.words)
    × (l.nesting.depth ≤ l.nesting.most)
