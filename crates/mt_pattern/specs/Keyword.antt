-- What a token is, by its spelling.
use Rattle.std.specs.Prelude.{ℕ, ◌||◌, if◌then◌else◌, List, codes, Option, Some, None}
use Rattle.std.specs.Str.{bytes_eq}
use Rattle.mt_pattern.specs.declared.keyword.Keyword.{Keyword}
use Rattle.mt_pattern.specs.declared.keyword.Keyword.TheVariants.{Open, Close, Not, And, Or, More, Less, AtLeast, AtMost, Always, Src, Dst, Host, Net, Port, Tcp, Udp, Icmp, Ip, Proto, Dscp, Ttl, Frag, Unfrag, Opt, Syn, Ack, Fin, Rst, MessageType, Other}

-- signs and operators
unfoldable pub operator_of : List ℕ → Option Keyword
operator_of word =
    if bytes_eq word (codes "(") then Some Open
    else if bytes_eq word (codes ")") then Some Close
    else if bytes_eq word (codes "!") || bytes_eq word (codes "not") then Some Not
    else if bytes_eq word (codes "&&") || bytes_eq word (codes "and") then Some And
    else if bytes_eq word (codes "||") || bytes_eq word (codes "or") then Some Or
    else if bytes_eq word (codes ">") then Some More
    else if bytes_eq word (codes "<") then Some Less
    else if bytes_eq word (codes ">=") then Some AtLeast
    else if bytes_eq word (codes "<=") then Some AtMost
    else None

-- what a test begins with, and its directions
unfoldable pub head_of : List ℕ → Option Keyword
head_of word =
    if bytes_eq word (codes "-") || bytes_eq word (codes "true") || bytes_eq word (codes "all") then Some Always
    else if bytes_eq word (codes "src") then Some Src
    else if bytes_eq word (codes "dst") then Some Dst
    else if bytes_eq word (codes "host") then Some Host
    else if bytes_eq word (codes "net") then Some Net
    else if bytes_eq word (codes "port") then Some Port
    else if bytes_eq word (codes "tcp") then Some Tcp
    else if bytes_eq word (codes "udp") then Some Udp
    else if bytes_eq word (codes "icmp") then Some Icmp
    else if bytes_eq word (codes "ip") then Some Ip
    else None

-- what stands further on in a test
unfoldable pub detail_of : List ℕ → Option Keyword
detail_of word =
    if bytes_eq word (codes "proto") then Some Proto
    else if bytes_eq word (codes "dscp") then Some Dscp
    else if bytes_eq word (codes "ttl") then Some Ttl
    else if bytes_eq word (codes "frag") then Some Frag
    else if bytes_eq word (codes "unfrag") then Some Unfrag
    else if bytes_eq word (codes "opt") then Some Opt
    else if bytes_eq word (codes "syn") then Some Syn
    else if bytes_eq word (codes "ack") then Some Ack
    else if bytes_eq word (codes "fin") then Some Fin
    else if bytes_eq word (codes "rst") then Some Rst
    else if bytes_eq word (codes "type") then Some MessageType
    else None

abbrev pub keyword_or : Option Keyword → Keyword → Keyword
keyword_or None fallback = fallback
keyword_or (Some keyword) fallback = keyword

-- what a token is
unfoldable pub keyword_of : List ℕ → Keyword
keyword_of word = keyword_or (operator_of word) (keyword_or (head_of word) (keyword_or (detail_of word) Other))
