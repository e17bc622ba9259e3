use Rattle.x25_layer.proofs.Names.{Bool, Ranges, AlwaysApart, IsOverLinks, Always, IsQuietWorld, IsLawfulWorld, ArrivesAll, KeepsOrder, NamesAreCounted}
use Rattle.x25_layer.proofs.{ApartLemmas.{apart_is_over_links, always_apart}, FirstLemmas.{restarts_first}, Names.{NoClearComesInP1, TwoLayers}}
use Rattle.x25_layer.proofs.law.apart_layers_keep_order.Goals as goal

over_links : goal.After-names_are_told → (long_data : Bool) (channels : Ranges) → IsOverLinks long_data channels
over_links c long_data channels = apart_is_over_links long_data channels (c.two_layers_keep_order.ensures.order long_data channels)

-- what always holds of two layers over links
apart : goal.After-names_are_told → (P : TwoLayers → Type 0) (long_data : Bool) (channels : Ranges) → Always P long_data channels
    → AlwaysApart P long_data channels
apart c P long_data channels = always_apart P long_data channels (over_links c long_data channels)

pub returns-clause-runs : goal.returns-clause-runs
returns-clause-runs c = over_links c

pub returns-clause-order : goal.returns-clause-order
returns-clause-order c = λ long_data channels. apart c KeepsOrder long_data channels (c.two_layers_keep_order.ensures.order long_data channels)

pub returns-clause-quiet : goal.returns-clause-quiet
returns-clause-quiet c = λ long_data channels. apart c (IsQuietWorld channels) long_data channels (c.two_layers_keep_order.ensures.quiet long_data channels)

pub returns-clause-lawful : goal.returns-clause-lawful
returns-clause-lawful c = λ long_data channels. apart c IsLawfulWorld long_data channels (c.two_layers_keep_order.ensures.lawful long_data channels)

pub returns-clause-arrives : goal.returns-clause-arrives
returns-clause-arrives c = λ long_data channels. apart c ArrivesAll long_data channels (c.two_layers_keep_order.ensures.arrives long_data channels)

pub returns-clause-names : goal.returns-clause-names
returns-clause-names c = λ long_data channels. apart c NamesAreCounted long_data channels (c.names_are_told.ensures.names long_data channels)

pub returns-clause-clear : goal.returns-clause-clear
returns-clause-clear c = λ long_data channels. apart c NoClearComesInP1 long_data channels (c.names_are_told.ensures.clear long_data channels)

pub returns-clause-restarted : goal.returns-clause-restarted
returns-clause-restarted c = restarts_first
