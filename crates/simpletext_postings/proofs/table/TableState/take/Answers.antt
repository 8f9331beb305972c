use Rattle.simpletext_postings.proofs.table.TableState.take.Goals as goal

pub returns-in-Pos : goal.returns-in-Pos
returns-in-Pos c = λ past s h. rw c.in-Pos.is (c.take_position.ensures c.args.docs past h)

pub returns-in-Freq : goal.returns-in-Freq
returns-in-Freq c = λ past s h. rw c.in-Freq.is (c.take_frequency.ensures c.args.docs past h)

pub returns-in-StartOffset : goal.returns-in-StartOffset
returns-in-StartOffset c = λ past s h. rw c.in-StartOffset.is (c.take_start_offset.ensures c.args.docs past h)

pub returns-in-EndOffset : goal.returns-in-EndOffset
returns-in-EndOffset c = λ past s h. rw c.in-EndOffset.is (c.take_end_offset.ensures c.args.docs past h)

pub returns-in-Payload : goal.returns-in-Payload
returns-in-Payload c = λ past s h. rw c.in-Payload.is (c.take_payload.ensures c.args.docs past h)

pub returns-in-End : goal.returns-in-End
returns-in-End c = λ past s h. rw c.in-End.is (c.take_end.ensures c.args.docs past h)

pub returns-in-Checksum : goal.returns-in-Checksum
returns-in-Checksum c = λ past s h. rw c.in-Checksum.is (c.take_checksum.ensures c.args.docs past h)
