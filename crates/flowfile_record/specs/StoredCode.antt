-- The codes of what a store keeps, by which proofs tell its values apart: each record is stored as the tuple of its
-- fields.
use Rattle.std.specs.Prelude.{ℕ, List, refl}
use Rattle.std.specs.Coded.{Coded, code_by, coded×, coded_ℕ, coded_list}
use Rattle.std.specs.FinMap.{code}
use Rattle.flowfile_record.specs.Attributes.{AttributeMap}
use Rattle.flowfile_record.specs.Stored.{Kept}
use Rattle.flowfile_record.specs.declared.content.ContentRef.{ContentRef}
use Rattle.flowfile_record.specs.declared.flow_file.FlowFile.{FlowFile}
use Rattle.flowfile_record.specs.declared.stored.ActiveFile.{ActiveFile}
use Rattle.flowfile_record.specs.declared.stored.SwapBatch.{SwapBatch}

abbrev pub attributes_code : Coded AttributeMap
attributes_code = code (coded_list coded_ℕ) (coded_list coded_ℕ)

abbrev pub content_code : Coded ContentRef
content_code =
    code_by (ℕ × (ℕ × (ℕ × List ℕ))) (coded× coded_ℕ (coded× coded_ℕ (coded× coded_ℕ (coded_list coded_ℕ))))
    (λ c. (c.slot, (c.offset, (c.size, c.digest))))
    (λ t. record { slot = t.0; offset = t.1.0; size = t.1.1.0; digest = t.1.1.1 }) (λ _. refl)

abbrev pub file_code : Coded FlowFile
file_code =
    code_by (ℕ × (AttributeMap × (ContentRef × (ℕ × (ℕ × ℕ)))))
    (coded× coded_ℕ (coded× attributes_code (coded× content_code (coded× coded_ℕ (coded× coded_ℕ coded_ℕ)))))
    (λ f. (f.number, (f.attributes, (f.content, (f.entered, (f.penalty_end, f.arrival))))))
    (λ t. record {
      number = t.0;
      attributes = t.1.0;
      content = t.1.1.0;
      entered = t.1.1.1.0;
      penalty_end = t.1.1.1.1.0;
      arrival = t.1.1.1.1.1;
    }) (λ _. refl)

abbrev pub active_code : Coded ActiveFile
active_code = code_by (ℕ × FlowFile) (coded× coded_ℕ file_code) (λ a. (a.connection, a.file))
    (λ t. record { connection = t.0; file = t.1 }) (λ _. refl)

abbrev pub batch_code : Coded SwapBatch
batch_code =
    code_by (ℕ × (ℕ × (ℕ × (ℕ × ℕ)))) (coded× coded_ℕ (coded× coded_ℕ (coded× coded_ℕ (coded× coded_ℕ coded_ℕ))))
    (λ b. (b.connection, (b.batch, (b.files, (b.bytes, b.encoded)))))
    (λ t. record { connection = t.0; batch = t.1.0; files = t.1.1.0; bytes = t.1.1.1.0; encoded = t.1.1.1.1 })
    (λ _. refl)

abbrev pub counters_code : Coded (ℕ × (ℕ × (ℕ × (ℕ × ℕ))))
counters_code = coded× coded_ℕ (coded× coded_ℕ (coded× coded_ℕ (coded× coded_ℕ coded_ℕ)))

abbrev pub lists_code : Coded (List (List ℕ) × (List (List ℕ) × List ℕ))
lists_code = coded× (coded_list (coded_list coded_ℕ)) (coded× (coded_list (coded_list coded_ℕ)) (coded_list coded_ℕ))

abbrev pub kept_code : Coded Kept
kept_code =
    code_by (ℕ × (List ℕ × ((List (List ℕ) × (List (List ℕ) × List ℕ))
    × ((ℕ × (ℕ × (ℕ × (ℕ × ℕ)))) × (List ActiveFile × List SwapBatch)))))
    (coded× coded_ℕ (coded× (coded_list coded_ℕ) (coded× lists_code
    (coded× counters_code (coded× (coded_list active_code) (coded_list batch_code))))))
    (λ k. (
      k.store,
      (
        k.flow,
        (
          (k.connections, (k.processors, k.counts)),
          ((k.next_number, (k.next_arrival, (k.last_event, (k.line, k.next_batch)))), (k.files, k.batches)),
        ),
      ),
    ))
    (λ t. record {
      store = t.0;
      flow = t.1.0;
      connections = t.1.1.0.0;
      processors = t.1.1.0.1.0;
      counts = t.1.1.0.1.1;
      next_number = t.1.1.1.0.0;
      next_arrival = t.1.1.1.0.1.0;
      last_event = t.1.1.1.0.1.1.0;
      line = t.1.1.1.0.1.1.1.0;
      next_batch = t.1.1.1.0.1.1.1.1;
      files = t.1.1.1.1.0;
      batches = t.1.1.1.1.1;
    })
    (λ _. refl)
