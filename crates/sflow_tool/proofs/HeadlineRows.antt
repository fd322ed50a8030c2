-- A capture of version 1 that has entries in order; and of the worked row its bytes and its report.
use Rattle.std.proofs.Common.{◌≡◌, ◌≤◌, ◌^◌, ℕ, true, List, [], ◌∷◌, ◌++◌, length, map, None, arith, refl, ap, subst, sym}
use Rattle.std.specs.Prelude.{false, reverse, codes, nat_lt}
use Rattle.std.specs.Fmt.{digits}
use Rattle.std.specs.List.{AllByRecursion, list_all}
use Rattle.std.proofs.lemmas.List.{length-map, length-reverse, reverse-append}
use Rattle.std.proofs.lemmas.List.Elements.{All-map, All-from_recursion}
use Rattle.wire_spec.specs.Bytes.{AreBytes}
use Rattle.wire_spec.specs.Captures.{Entry, IsEntry, entry_head, entry_bytes}
use Rattle.wire_spec.proofs.ByteLists.{tested_bytes}
use Rattle.capture_spec.specs.declared.capture_version.CaptureVersion.TheVariants.{One}
use Rattle.capture_spec.specs.Items.{entry_of, sent_by}
use Rattle.capture_spec.specs.VersionedCaptures.{IsReceived, opened_bytes, whole_bytes}
use Rattle.account_spec.specs.Deliveries.{entry_of as sent_entry}
use Rattle.account_laws.proofs.Lists.{all-append}
use Rattle.delivered_items.specs.WholeRows.{whole_history, whole_deliveries, whole_account}
use Rattle.sample_taps.specs.Classes.{no_classes}
use Rattle.report_lines.specs.HeaderLines.{class_line, no_taps}
use Rattle.report_lines.specs.InterfaceLines.{report_with}
use Rattle.report_lines.specs.Lines.{stream_text, flow_text, counters_text, total_text}
use Rattle.sflow_tool.specs.Headlines.{IsCaptureOf}

back : (es : List Entry) → map entry_of (map (sent_by None) es) ≡ es
back [] = refl
back (e ∷ es) = ap (λ (more : List Entry). e ∷ more) (back es)

all-reverse : (P : Entry → Type 0) (es : List Entry) → AllByRecursion P es → AllByRecursion P (reverse es)
all-reverse P [] h = tt
all-reverse P (e ∷ es) h =
    subst (AllByRecursion P) (sym (reverse-append (e ∷ []) es))
    (all-append P (reverse es) (e ∷ []) (all-reverse P es h.1) (h.0, tt))

-- in version 1 an entry has no sender
is-received : (es : List Entry) → AllByRecursion IsEntry es → AllByRecursion (λ (e : Entry). IsReceived One (sent_by None e)) es
is-received [] h = tt
is-received (e ∷ es) h = ((refl, h.0), is-received es h.1)

-- entries have the LATEST FIRST
pub capture_in_order : (es : List Entry) → AllByRecursion IsEntry es → length es ≤ 2 ^ 48
    → IsCaptureOf es (whole_bytes One (map (sent_by None) (reverse es)))
capture_in_order es each few = record {
  version = One;
  received = map (sent_by None) (reverse es);
  whole = record {
    few = omega (arith, length-map (reverse es) (sent_by None), length-reverse es);
    capture = record {
      each = All-map (IsReceived One) (sent_by None) (reverse es)
          (All-from_recursion (λ (e : Entry). IsReceived One (sent_by None e)) (reverse es)
          (is-received (reverse es) (all-reverse IsEntry es each)));
      number = tt;
      whole = refl;
    };
  };
  in_order = back (reverse es);
}

-- ---- the worked row

abbrev whole_input : List ℕ
whole_input = whole_bytes One (map (sent_by None) (reverse (map (sent_entry whole_history) whole_deliveries)))

tested : list_all (λ (b : ℕ). nat_lt b 256) whole_input ≡ true
unfolding opened_bytes entry_bytes entry_head
tested = refl

pub whole_input_is_bytes : AreBytes (whole_bytes One (map (sent_by None) (reverse (map (sent_entry whole_history) whole_deliveries))))
whole_input_is_bytes = tested_bytes whole_input tested

pub written : report_with false whole_account (record no_classes { short = 7 }) no_taps
    ≡ codes "stream 1 agent 10.0.0.1 sub 0 boots 2 issued 7 received 6 pending 0 lost 1 repeated 1 late 0 stale 1\n"
    ++ codes "source 1 flow 0:5 generations 3 issued 8 received 7 pending 0 lost 1 repeated 0 late 0 stale 0 pool 6 drops 1 rate 1\n"
    ++ codes "source 1 counters 0:5 generations 1 issued 2 received 2 pending 0 lost 0 repeated 0 late 0 stale 0\n"
    ++ codes "headers unscanned 0 short 7 length 0 undefined 0 arp 0 ipv4 0 ipv6 0 other 0 badip 0 tagged 0 tcp 0 udp 0\n"
    ++ codes "total entries 8 malformed 0 unlisted 0 unlisted_samples 0 other 0 taps_ended 0\n"
unfolding digits stream_text flow_text counters_text class_line total_text report_with
written = refl
