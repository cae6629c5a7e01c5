-- Each call hands on what the next one needs.
use Rattle.std.proofs.Common.{ℕ, List, [], ◌∷◌, arith}
use Rattle.sdr_base.specs.declared.account.Acct.TheVariants as accts
use Rattle.example_pieces.proofs.node.make_payload.Goals as goal

-- the payload's bytes
abbrev text : List ℕ
text =
    102 ∷ 114 ∷ 97 ∷ 103 ∷ 109 ∷ 101 ∷ 110 ∷ 116 ∷ 115 ∷ 32 ∷ 111 ∷ 118 ∷ 101 ∷ 114 ∷ 32 ∷ 97 ∷ 32 ∷
    115 ∷ 108 ∷ 111 ∷ 119 ∷ 32 ∷ 108 ∷ 105 ∷ 110 ∷ 107 ∷ []

pub create-requires-clause-spare : goal.create-requires-clause-spare
create-requires-clause-spare g c =
    let law = c.texts_keep.ensures in
    let room = law.raw_spare _ text 303 _ (law.taken _ text 303 _ _ c.requires.nothing c.requires.spare c.in_ok-raw.ensures.taken) in
    omega (arith, room)

pub create-requires-clause-queue : goal.create-requires-clause-queue
create-requires-clause-queue g c =
    let law = c.texts_keep.ensures in
    law.raw_queue accts.Inbound _ text 303 _ (law.taken _ text 303 _ _ c.requires.nothing c.requires.spare c.in_ok-raw.ensures.taken)

pub append_extent-requires-clause-spare : goal.append_extent-requires-clause-spare
append_extent-requires-clause-spare g c =
    let law = c.texts_keep.ensures in
    let taken = law.taken _ text 303 _ _ c.requires.nothing c.requires.spare c.in_ok-raw.ensures.taken in
    let room = law.empty_spare _ _ _ text 302 _ (law.made accts.Inbound 0 _ _ text 302 _ _ taken c.in_ok-object.ensures.made) in
    omega (arith, room)

pub append_extent-requires-clause-source : goal.append_extent-requires-clause-source
append_extent-requires-clause-source g c =
    let law = c.texts_keep.ensures in
    let taken = law.taken _ text 303 _ _ c.requires.nothing c.requires.spare c.in_ok-raw.ensures.taken in
    law.with_source _ _ _ text 302 _ (law.made accts.Inbound 0 _ _ text 302 _ _ taken c.in_ok-object.ensures.made) (omega arith)

pub append_extent-requires-clause-raw : goal.append_extent-requires-clause-raw
append_extent-requires-clause-raw g c =
    let law = c.texts_keep.ensures in
    let taken = law.taken _ text 303 _ _ c.requires.nothing c.requires.spare c.in_ok-raw.ensures.taken in
    law.with_raw _ _ _ text 302 _ (law.made accts.Inbound 0 _ _ text 302 _ _ taken c.in_ok-object.ensures.made) (omega arith)

pub returns-clause-text : goal.returns-clause-text
returns-clause-text g c =
    let law = c.texts_keep.ensures in
    let taken = law.taken _ text 303 _ _ c.requires.nothing c.requires.spare c.in_ok-raw.ensures.taken in
    law.begun _ _ _ text 300 (record { of = c.in_ok-raw.raw; offset = 0; bytes = 26 }) _ _
    (law.made accts.Inbound 0 _ _ text 302 _ _ taken c.in_ok-object.ensures.made) (omega arith) (omega arith) c.in_ok-append_extent.ensures.appended
