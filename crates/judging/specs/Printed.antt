-- What the page prints: table K with its log and the report on both, and table M as the text that its words describe.
use Rattle.std.specs.Prelude.{ℕ, List}
use Rattle.text.specs.Quoted.{quoted}

-- "Table K and its log"
unfoldable pub text_k : List ℕ
text_k = quoted "task\t10\t5\nact\t0\ncodel\t0\tstart\t20\nedge\t0\tether\trun\nend\t4\n"

unfoldable pub printed_log : List ℕ
printed_log = quoted "wait\t10\nst\t0\nsm\t0\t0000000000000001\t0000000000000000\nlm\t0\t0\nea\t0\t0\nwait\t10\nst\t0\nwait\t10\nfa\t0\tether\nfm\t0\nsm\t0\t0000000000000000\t0000000000000001\nlm\t0\t0\nia\t0\nfm\t0\nst\t0\nsm\t0\t0000000000000000\t0000000000000001\nlm\t0\t0\nia\t0\nfm\t0\n"

-- "prints", and as document 02 has its `kept` row
unfoldable pub printed_report : List ℕ
printed_report = quoted "cycles\t1\nkept\t0\t1\t10\t30\t1\t20\nsum\t19\t30\t3\t1\t2\t0\t11\t0\t0\n"

-- "Table M: two tasks, each `10 5` with one activity, one start codel of limit 4 with a `run` edge to ether, and `mutex 0 1`."
unfoldable pub text_m : List ℕ
text_m = quoted "task\t10\t5\ntask\t10\t5\nact\t0\nact\t1\ncodel\t0\tstart\t4\ncodel\t1\tstart\t4\nedge\t0\tether\trun\nedge\t1\tether\trun\nmutex\t0\t1\nend\t9\n"
