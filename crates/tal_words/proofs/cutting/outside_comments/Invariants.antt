use Rattle.std.proofs.Common.{◌≡◌, ◌-◌, ◌<◌, ◌≤◌, true, length}
use Rattle.tal_words.specs.Source.{line_at, column_at, begins_token, tokens_below, tokens_of}
use Rattle.tal_words.proofs.Cut.{Passes}
use Rattle.tal_words.proofs.cutting.outside_comments.Given as goal

-- the tokens below the place have passed, and one begins at it unless it is the end
abbrev pub invariant-loop-place : goal.invariant-loop-place
invariant-loop-place l = record {
  within : l.place.at ≤ length l.source;
  line : l.place.line ≡ line_at l.source l.place.at;
  column : l.place.column ≡ column_at l.source l.place.at;
  token : l.place.at < length l.source → begins_token l.source l.place.at ≡ true;
  passes : Passes l.source (tokens_of l.source) (length (tokens_below l.source l.place.at)) l.words.items l.depth l.opener;
}

abbrev pub decreases-loop-place : goal.decreases-loop-place
decreases-loop-place l = length l.source - l.place.at
