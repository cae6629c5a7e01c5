-- Each call hands on what the next one needs.
use Rattle.std.proofs.Common.{ℕ, List, [], ◌∷◌, arith}
use Rattle.sdr_base.specs.declared.account.Acct.TheVariants as accts
use Rattle.test_pieces.proofs.calls.make_payload.Goals as goal

-- the six bytes
abbrev text : List ℕ
text = 65 ∷ 66 ∷ 67 ∷ 68 ∷ 69 ∷ 70 ∷ []

pub create-requires-clause-spare : goal.create-requires-clause-spare
create-requires-clause-spare g c =
    let law = c.texts_keep.ensures in
    let room = law.raw_spare _ text 103 _ (law.taken _ text 103 _ _ c.requires.nothing c.requires.spare c.in_ok-raw.ensures.taken) in
    omega (arith, room)

pub create-requires-clause-queue : goal.create-requires-clause-queue
create-requires-clause-queue g c =
    let law = c.texts_keep.ensures in
    law.raw_queue accts.Inbound _ text 103 _ (law.taken _ text 103 _ _ c.requires.nothing c.requires.spare c.in_ok-raw.ensures.taken)

pub append_extent-requires-clause-spare : goal.append_extent-requires-clause-spare
append_extent-requires-clause-spare g c =
    let law = c.texts_keep.ensures in
    let taken = law.taken _ text 103 _ _ c.requires.nothing c.requires.spare c.in_ok-raw.ensures.taken in
    let room = law.empty_spare _ _ _ text 102 _ (law.made accts.Inbound 0 _ _ text 102 _ _ taken c.in_ok-object.ensures.made) in
    omega (arith, room)

pub append_extent-requires-clause-source : goal.append_extent-requires-clause-source
append_extent-requires-clause-source g c =
    let law = c.texts_keep.ensures in
    let taken = law.taken _ text 103 _ _ c.requires.nothing c.requires.spare c.in_ok-raw.ensures.taken in
    law.with_source _ _ _ text 102 _ (law.made accts.Inbound 0 _ _ text 102 _ _ taken c.in_ok-object.ensures.made) (omega arith)

pub append_extent-requires-clause-raw : goal.append_extent-requires-clause-raw
append_extent-requires-clause-raw g c =
    let law = c.texts_keep.ensures in
    let taken = law.taken _ text 103 _ _ c.requires.nothing c.requires.spare c.in_ok-raw.ensures.taken in
    law.with_raw _ _ _ text 102 _ (law.made accts.Inbound 0 _ _ text 102 _ _ taken c.in_ok-object.ensures.made) (omega arith)

pub returns-clause-text : goal.returns-clause-text
returns-clause-text g c =
    let law = c.texts_keep.ensures in
    let taken = law.taken _ text 103 _ _ c.requires.nothing c.requires.spare c.in_ok-raw.ensures.taken in
    law.begun _ _ _ text 100 (record { of = c.in_ok-raw.raw; offset = 0; bytes = 6 }) _ _
    (law.made accts.Inbound 0 _ _ text 102 _ _ taken c.in_ok-object.ensures.made) (omega arith) (omega arith) c.in_ok-append_extent.ensures.appended
