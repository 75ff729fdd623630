-- A session's fields, and the bench that they stand for.
use Rattle.process_session.specs.declared.session.Session.TheInside.{Inside}
use Rattle.process_session.specs.Bench.{Bench}
use Rattle.process_session.specs.Sound.{IsSoundBench}

abbrev pub bench_in : Inside → Bench
bench_in session =
    record {
      relationships = session.relationships;
      sources = session.sources.items;
      files = session.files.items;
      sent = session.sent;
      handed = session.handed;
    }

abbrev pub IsSoundSession : Inside → Type 0
IsSoundSession session = IsSoundBench (bench_in session) session.counted
