use Rattle.tal_labels.proofs.Common.{◌≡◌, false, take, drop, phase_fault, each, validated_place, placing_fault, PlacerIsMaintained, kept_by}
use Rattle.tal_labels.proofs.placing.place.Given as goal

abbrev pub invariant-loop-word : goal.invariant-loop-word
invariant-loop-word l = record {
  kept : PlacerIsMaintained l.source (take l.word-index l.words) (kept_by l.placer);
  flag : l.placer.is_faulty ≡ false;
  sound : phase_fault (each (validated_place l.source) (take l.word-index l.words) (drop l.word-index l.words)) ≡ placing_fault l.source l.words;
}
