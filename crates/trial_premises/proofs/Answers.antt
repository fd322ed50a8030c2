-- What is answered is what the tests say.
use Rattle.std.proofs.Common.{◌≡◌, ℕ, ◌&&◌, List, [], ◌∷◌, map, refl}
use Rattle.std.specs.List.{list_all}
use Rattle.books_spec.specs.declared.limits.Limits.{Limits}
use Rattle.books_spec.specs.Items.{SourceId}
use Rattle.agent_spec.specs.Sources.{Source}
use Rattle.account_spec.specs.Histories.{SubAgent, stream_in}
use Rattle.account_spec.specs.Deliveries.{Delivery, boot_of, number_of, deliveries_of, id_of}
use Rattle.account_spec.specs.Arrivals.{Arrived, source_boots}
use Rattle.trial_spec.specs.CloseTests.{are_close_each, are_close_samples}
use Rattle.trial_spec.specs.ApparentTests as apparent_tests
use Rattle.trial_spec.specs.PremiseTests.{of_each_source, visible, close, apparent}
use Rattle.trial_premises.specs.Samples.{SourceState}
use Rattle.trial_premises.specs.Streams.{StreamState, SourcesStand, StreamsStand, sources_of, is_visible, is_close, are_close, are_apparent}

pub visible-is : (l : Limits) (history : List SubAgent) (states : List StreamState) (ds : List Delivery)
    → StreamsStand l history states ds → list_all is_visible states ≡ visible l history ds
visible-is l [] [] ds st = refl
visible-is l [] (s ∷ rest) ds st = absurd st
visible-is l (a ∷ more) [] ds st = absurd st
visible-is l (a ∷ more) (s ∷ rest) ds st =
    let later = visible-is l more rest ds st.1 in
    λ j. st.0.boots_stand.visible_is j && later j

datagrams-are : (l : Limits) (history : List SubAgent) (states : List StreamState) (ds : List Delivery)
    → StreamsStand l history states ds → list_all is_close states
    ≡ list_all (λ (a : SubAgent). are_close_each boot_of number_of (deliveries_of (stream_in a) ds)) history
datagrams-are l [] [] ds st = refl
datagrams-are l [] (s ∷ rest) ds st = absurd st
datagrams-are l (a ∷ more) [] ds st = absurd st
datagrams-are l (a ∷ more) (s ∷ rest) ds st =
    let later = datagrams-are l more rest ds st.1 in
    λ j. st.0.boots_stand.close_is j && later j

-- of the sources of one sub-agent
sources-close : (width boot : ℕ) (boots_of : SourceId → List (List Arrived)) (xs : List Source) (states : List SourceState)
    → SourcesStand width boot boots_of (map id_of xs) states
    → list_all (λ (s : SourceState). s.close) states
    ≡ list_all (λ (x : Source). list_all (are_close_samples width) (boots_of (id_of x))) xs
sources-close width boot boots_of [] [] st = refl
sources-close width boot boots_of [] (s ∷ rest) st = absurd st
sources-close width boot boots_of (x ∷ more) [] st = absurd st
sources-close width boot boots_of (x ∷ more) (s ∷ rest) st =
    let later = sources-close width boot boots_of more rest st.1 in
    λ j. st.0.close_is j && later j

sources-apparent : (width boot : ℕ) (boots_of : SourceId → List (List Arrived)) (xs : List Source) (states : List SourceState)
    → SourcesStand width boot boots_of (map id_of xs) states
    → list_all (λ (s : SourceState). s.apparent) states
    ≡ list_all (λ (x : Source). list_all apparent_tests.are_apparent (boots_of (id_of x))) xs
sources-apparent width boot boots_of [] [] st = refl
sources-apparent width boot boots_of [] (s ∷ rest) st = absurd st
sources-apparent width boot boots_of (x ∷ more) [] st = absurd st
sources-apparent width boot boots_of (x ∷ more) (s ∷ rest) st =
    let later = sources-apparent width boot boots_of more rest st.1 in
    λ j. st.0.apparent_is j && later j

abbrev boots_in : Limits → SubAgent → List Delivery → SourceId → List (List Arrived)
boots_in l a ds id = source_boots l.datagram_width id (deliveries_of (stream_in a) ds)

samples-are : (l : Limits) (history : List SubAgent) (states : List StreamState) (ds : List Delivery)
    → StreamsStand l history states ds → list_all are_close states
    ≡ list_all (of_each_source (are_close_samples l.sample_width) l.datagram_width ds) history
samples-are l [] [] ds st = refl
samples-are l [] (s ∷ rest) ds st = absurd st
samples-are l (a ∷ more) [] ds st = absurd st
samples-are l (a ∷ more) (s ∷ rest) ds st =
    let here = sources-close l.sample_width _ (boots_in l a ds) (sources_of a) s.sources st.0.sources_stand in
    let later = samples-are l more rest ds st.1 in
    λ j. here j && later j

pub close-is : (l : Limits) (history : List SubAgent) (states : List StreamState) (ds : List Delivery)
    → StreamsStand l history states ds → (list_all is_close states && list_all are_close states) ≡ close l history ds
close-is l history states ds st = λ j. datagrams-are l history states ds st j && samples-are l history states ds st j

pub apparent-is : (l : Limits) (history : List SubAgent) (states : List StreamState) (ds : List Delivery)
    → StreamsStand l history states ds → list_all are_apparent states ≡ apparent l history ds
apparent-is l [] [] ds st = refl
apparent-is l [] (s ∷ rest) ds st = absurd st
apparent-is l (a ∷ more) [] ds st = absurd st
apparent-is l (a ∷ more) (s ∷ rest) ds st =
    let here = sources-apparent l.sample_width _ (boots_in l a ds) (sources_of a) s.sources st.0.sources_stand in
    let later = apparent-is l more rest ds st.1 in
    λ j. here j && later j
