-- What the definition says of some rounds, against their lines.
use Rattle.std.specs.Prelude.{◌≡◌, true, false, Ok, codes, refl}
use Rattle.hex.specs.Hex.{decode_pairs}
use Rattle.sdr_load.specs.Rounds.{drops_oldest, round_of}
use Rattle.sdr_load.specs.Schedule.{script_for}
use Rattle.sdr_load.specs.Statements.{numbered}
use Rattle.sdr_load.specs.VerbPlaces.{place_of}
use Rattle.sdr_words.specs.Script.{script_of}
use Rattle.sdr_words.specs.Verbs.{shapes, verb_names}

-- rounds 0 and 1: round 1 is daemon 2's, and its object has 38 bytes
first_rounds : script_of (codes "1: begin\n1: l = list 0\n1: catlg \"load\" 1 l\n1: end\n2: begin\n2: l = find \"load\"\n2: p = malloc 38\n2: write p 0 f01*38\n2: insert_last l p\n2: end\n")
    ≡ Ok (script_for 1)
unfolding round_of place_of shapes verb_names decode_pairs
first_rounds = refl

-- round 3 is cancelled
cancelled_round : script_of (codes "4: begin\n4: l = find \"load\"\n4: p = malloc 112\n4: write p 0 f03*112\n4: insert_last l p\n4: cancel\n")
    ≡ Ok (numbered 1 (round_of 3))
unfolding round_of place_of shapes verb_names decode_pairs
cancelled_round = refl

-- of the rounds 1 to 11 eight end, of the rounds 1 to 10 seven: round 12 is the first in which the oldest element goes
nothing_dropped : drops_oldest 11 ≡ false
nothing_dropped = refl

first_dropped : drops_oldest 12 ≡ true
first_dropped = refl

first_dropping : script_of (codes "1: begin\n1: l = find \"load\"\n1: p = malloc 445\n1: write p 0 f0c*445\n1: insert_last l p\n1: e = first l\n1: x = data e\n1: delete e\n1: free x\n1: cancel\n")
    ≡ Ok (numbered 1 (round_of 12))
unfolding round_of place_of shapes verb_names decode_pairs
first_dropping = refl
