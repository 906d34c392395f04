-- Which states take what: a table for each question, one line for each state.
use Rattle.std.specs.Prelude.{ℕ, Bool, true, false, cond, eqb}
use Rattle.protocol.specs.declared.TransactionState.{TransactionState}
use Rattle.protocol.specs.declared.Transaction.{Transaction}
use Rattle.protocol.specs.declared.EnrolmentState.{EnrolmentState}
use Rattle.protocol.specs.declared.TransactionState.TheVariants as at_registrar
use Rattle.protocol.specs.declared.EnrolmentState.TheVariants.{Asked, Confirming, Declining, Sure, Declined, Failed, Unsettled}

-- ## The registrar

-- the host's answer is awaited
abbrev pub is_asked : TransactionState → Bool
is_asked at_registrar.Free = false
is_asked at_registrar.Asked = true
is_asked at_registrar.Granted = false
is_asked at_registrar.Confirmed = false
is_asked at_registrar.Declined = false
is_asked at_registrar.Refused = false
is_asked at_registrar.Lapsed = false

-- a certConf is awaited, and moves it
abbrev pub is_granted : TransactionState → Bool
is_granted at_registrar.Free = false
is_granted at_registrar.Asked = false
is_granted at_registrar.Granted = true
is_granted at_registrar.Confirmed = false
is_granted at_registrar.Declined = false
is_granted at_registrar.Refused = false
is_granted at_registrar.Lapsed = false

-- it has sent its ip, cp or kup ("a record that sent none matches nothing")
abbrev pub has_sent : TransactionState → Bool
has_sent at_registrar.Free = false
has_sent at_registrar.Asked = false
has_sent at_registrar.Granted = true
has_sent at_registrar.Confirmed = true
has_sent at_registrar.Declined = true
has_sent at_registrar.Refused = true
has_sent at_registrar.Lapsed = true

-- its hash is set
abbrev pub is_hashed : TransactionState → Bool
is_hashed at_registrar.Free = false
is_hashed at_registrar.Asked = false
is_hashed at_registrar.Granted = true
is_hashed at_registrar.Confirmed = true
is_hashed at_registrar.Declined = true
is_hashed at_registrar.Refused = false
is_hashed at_registrar.Lapsed = true

-- a certConf of this status led to this state
abbrev pub settled_by : TransactionState → ℕ → Bool
settled_by at_registrar.Free s = false
settled_by at_registrar.Asked s = false
settled_by at_registrar.Granted s = false
settled_by at_registrar.Confirmed s = eqb s 0
settled_by at_registrar.Declined s = eqb s 2
settled_by at_registrar.Refused s = false
settled_by at_registrar.Lapsed s = false

-- where a certConf leads at Granted: "no status info or status 0 gives Confirmed, 2 gives Declined"
abbrev pub settled_state : ℕ → TransactionState
settled_state s = cond (eqb s 0) at_registrar.Confirmed at_registrar.Declined

-- nothing more is awaited
abbrev pub is_ended : TransactionState → Bool
is_ended at_registrar.Free = false
is_ended at_registrar.Asked = false
is_ended at_registrar.Granted = false
is_ended at_registrar.Confirmed = true
is_ended at_registrar.Declined = true
is_ended at_registrar.Refused = true
is_ended at_registrar.Lapsed = true

-- refusal 20: "11 if Confirmed"
abbrev pub is_confirmed : TransactionState → Bool
is_confirmed at_registrar.Free = false
is_confirmed at_registrar.Asked = false
is_confirmed at_registrar.Granted = false
is_confirmed at_registrar.Confirmed = true
is_confirmed at_registrar.Declined = false
is_confirmed at_registrar.Refused = false
is_confirmed at_registrar.Lapsed = false

-- ## What holds of a transaction

-- its hash is set
abbrev pub has_hash : Transaction → Bool
has_hash r = is_hashed r.state

-- issue: "Asked to Granted"
abbrev pub may_issue : Transaction → Bool
may_issue r = is_asked r.state

-- refuse: "Asked to Refused"
abbrev pub may_refuse : Transaction → Bool
may_refuse r = is_asked r.state

-- lapse: "Granted to Lapsed"
abbrev pub may_lapse : Transaction → Bool
may_lapse r = is_granted r.state

-- close: "from Confirmed, Declined, Refused or Lapsed to free"
abbrev pub may_close : Transaction → Bool
may_close r = is_ended r.state

-- ## The end entity

-- a response is awaited: no confirmation sent yet
abbrev pub is_waiting : EnrolmentState → Bool
is_waiting Asked = true
is_waiting Confirming = false
is_waiting Declining = false
is_waiting Sure = false
is_waiting Declined = false
is_waiting Failed = false
is_waiting Unsettled = false

-- a confirmation was sent, and its pkiconf is awaited
abbrev pub is_confirming : EnrolmentState → Bool
is_confirming Asked = false
is_confirming Confirming = true
is_confirming Declining = true
is_confirming Sure = false
is_confirming Declined = false
is_confirming Failed = false
is_confirming Unsettled = false

-- an error, a time out: "Asked to Failed, Confirming or Declining to Unsettled"
abbrev pub broken_state : EnrolmentState → EnrolmentState
broken_state Asked = Failed
broken_state Confirming = Unsettled
broken_state Declining = Unsettled
broken_state Sure = Sure
broken_state Declined = Declined
broken_state Failed = Failed
broken_state Unsettled = Unsettled

-- pkiconf: "Confirming to Sure, Declining to Declined"
abbrev pub assured : EnrolmentState → EnrolmentState
assured Asked = Asked
assured Confirming = Sure
assured Declining = Declined
assured Sure = Sure
assured Declined = Declined
assured Failed = Failed
assured Unsettled = Unsettled

-- the host's decision on a response: accepted gives Confirming, else Declining
abbrev pub decided : Bool → EnrolmentState
decided true = Confirming
decided false = Declining

-- the status of its certConf
abbrev pub decision : Bool → ℕ
decision true = 0
decision false = 2
