use Rattle.std.proofs.Common.{◌≡◌, ◌++◌, List, ℕ, append_assoc}
use Rattle.std.specs.Int.{w64, to_be_bytes}
use Rattle.flowfile_record.specs.Encoding.{byte, text, long, numbers}
use Rattle.flowfile_record.specs.Events.{code_of}
use Rattle.prov_event.specs.Encoding.{event}
use Rattle.prov_event.proofs.write.put_event.Goals as goal

regroup : (o a b c d e f g h i j : List ℕ) → o ++ a ++ b ++ c ++ d ++ e ++ f ++ g ++ h ++ i ++ j ≡ o ++ (a ++ b ++ c ++ d ++ e ++ f ++ g ++ h ++ i ++ j)
regroup o a b c d e f g h i j = simp append_assoc

pub returns-clause-items : goal.returns-clause-items
unfolding event
returns-clause-items c =
    let e = c.args.event.now in
    rw (
      c.put.ensures.items,
      c.put_u64-4.ensures.items,
      c.put_long.ensures.items,
      c.put_numbers-2.ensures.items,
      c.put_numbers.ensures.items,
      c.put_u64-3.ensures.items,
      c.put_text.ensures.items,
      c.put_u64-2.ensures.items,
      c.put_u8.ensures.items,
      c.put_u64.ensures.items,
      c.code.ensures,
      c.as_str.ensures.text,
      c.as_slice.ensures,
      c.as_slice-2.ensures,
      c.as_str-2.ensures.text,
    )
    (regroup c.args.out.now.items (to_be_bytes w64 e.number) (byte (code_of e.kind)) (to_be_bytes w64 e.moment) (text e.component) (to_be_bytes w64 e.file) (numbers e.parents) (numbers e.children) (long e.detail) (to_be_bytes w64 e.size) e.digest)
