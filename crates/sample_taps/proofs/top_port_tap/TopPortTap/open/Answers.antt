use Rattle.sample_taps.proofs.top_port_tap.TopPortTap.open.Goals as goal

pub returns : goal.returns
returns c = c.in_ok-counts.ensures.items_if_clones_equal (λ y same. same)
