use Rattle.std.proofs.Common.{◌∙◌, ◌*◌, Bool, cond, ap, sym}
use Rattle.std.proofs.lemmas.Bool.{and_from, and_left, and_right, le-leb, le-ltb, lt-leb, lt-ltb}
use Rattle.sdr_base.specs.KeptHeap.{root_in}
use Rattle.sdr_base.specs.Stored.{number_at}
use Rattle.audit_owners.proofs.region.root.Goals as goal
use Rattle.audit_owners.proofs.region.root.Goals.{else-word-ge-FIRST_NAME-via-then-word-ge-FIRST_NAME+else-word-lt-CONTROL_WORDS, else-word-ge-FIRST_NAME-via-else-word-ge-FIRST_NAME}

pub returns-then-word-lt-CONTROL_WORDS : goal.returns-then-word-lt-CONTROL_WORDS
unfolding root_in
returns-then-word-lt-CONTROL_WORDS c =
    c.number_at.ensures
    ∙ sym (ap (λ (t : Bool). cond t (number_at (8 * c.args.word) c.args.heap.now) 0)
    (and_from _ _ (le-leb 89 c.args.word c.if-word-ge-FIRST_NAME.true) (lt-ltb c.args.word 128 c.if-word-lt-CONTROL_WORDS.true)))

pub returns-else-word-ge-FIRST_NAME : goal.returns-else-word-ge-FIRST_NAME
unfolding root_in
returns-else-word-ge-FIRST_NAME c = elim c.else-word-ge-FIRST_NAME.branch [
  | else-word-ge-FIRST_NAME-via-then-word-ge-FIRST_NAME+else-word-lt-CONTROL_WORDS w ↦
      sym (ap (λ (t : Bool). cond t (number_at (8 * c.args.word) c.args.heap.now) 0) (and_right _ _ (le-ltb c.args.word 128 w.if-word-lt-CONTROL_WORDS.false)))
  | else-word-ge-FIRST_NAME-via-else-word-ge-FIRST_NAME w ↦
      sym (ap (λ (t : Bool). cond t (number_at (8 * c.args.word) c.args.heap.now) 0) (and_left _ _ (lt-leb 89 c.args.word w.if-word-ge-FIRST_NAME.false)))
]
